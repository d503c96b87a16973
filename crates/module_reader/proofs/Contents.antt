-- What parsing a content gives, in the words of the reading.
use Rattle.std.proofs.Common.{◌≡◌, ◌≤◌, ◌<◌, ℕ, List, true, false, nat_lt, Some, None, Result, Ok, Err}
use Rattle.std.proofs.Common.{arith, refl}
use Rattle.std.proofs.lemmas.Bool.{ltb-false, le-ltb, lt-ltb}
use Rattle.content_models.specs.declared.content.Content.{Content}
use Rattle.content_models.specs.declared.content.Content.TheVariants.{Mixed}
use Rattle.content_models.specs.declared.parsing.ContentFault.{ContentFault}
use Rattle.content_models.specs.declared.parsing.ContentFault.TheVariants as fault
use Rattle.content_models.specs.Parses.{Parses, most_open, occurrences, repeated_in, IsTooDeep}
use Rattle.content_models.specs.Reading.{content_of}
use Rattle.content_models.proofs.Contents.{content_sound, content_complete}
use Rattle.content_models.proofs.Exact.{few, nothing_read}
use Rattle.module_reader.specs.ContentRead.{ReadsContent}
use Rattle.module_reader.specs.Laws.{ContentsRead}

shallow : (t : List ℕ) → nat_lt 64 (most_open 0 t) ≡ false → IsTooDeep t → ⊥
shallow t e d = (let l : most_open 0 t ≤ 64 = ltb-false 64 (most_open 0 t) e in omega arith)

pub read_content : (t : List ℕ) (r : Result Content ContentFault) → nat_lt 64 (most_open 0 t) ≡ false → Parses t r → ReadsContent t r
read_content t (Ok c) e p = (let f = few c p.2 in (content_complete t c p.1 p.0, le-ltb 1024 (occurrences c) f.0, f.1, p.2))
read_content t (Err fault.GroupTooDeep) e p = shallow t e p
read_content t (Err fault.Malformed) e p = nothing_read t p.1 (content_of t) refl
read_content t (Err fault.PositionsOver) e p = (p.1, content_complete t p.1 p.2 p.0, lt-ltb 1024 (occurrences p.1) p.3)
read_content t (Err (fault.DuplicateMixedName name)) e p = (Mixed p.1, content_complete t (Mixed p.1) p.2 p.0, le-ltb 1024 (occurrences (Mixed p.1)) p.3, p.4)
read_content t (Err fault.NoMemory) e p = tt

-- a content is read exactly where it is spelled
pub contents_read : ContentsRead
contents_read text content shallow = (content_sound text content, λ spells. content_complete text content spells shallow)
