-- Bytes of files that were loaded.
use Rattle.std.proofs.Common.{◌≡◌, ◌∙◌, ℕ, ◌+◌, Bool, true, false, List, take, Option, Some, None, Result, IfSome, Ok, Err, nat_lt, length, option_map, sym, ap, refl, subst, arith, Vec, Global}
use Rattle.std.proofs.lemmas.Bool.Decides.{nat_tests}
use Rattle.jats_fault.specs.declared.fault.Fault.{Fault}
use Rattle.jats_io.specs.Loads.{held, Loads}
use Rattle.jats_io.specs.declared.store.Loaded.{Loaded}
use Rattle.jats_io.specs.declared.store.Loaded.TheVariants.{Bytes}
use Rattle.document_trees.specs.Trees.{Node}
use Rattle.decl_set.specs.Declarations.{Entity}
use Rattle.dtd_scanner.specs.Walk.{◌>>=◌}
use Rattle.module_reader.specs.Outcomes.{Reads}
use Rattle.module_reader.specs.Sources.{Files}
use Rattle.module_reader.specs.declared.faults.ReadFault.{ReadFault}
use Rattle.module_reader.specs.declared.faults.ReadFault.TheVariants as fault
use Rattle.module_reader.proofs.Modules.{take_short, long_front}
use Rattle.article_tree.specs.Decoding.{article_from}
use Rattle.article_files.specs.Answers.{ReadsAs}
use Rattle.article_files.specs.Bytes.{bytes_held, file_bytes, most_bytes, article_in}

module _ (limit : ℕ) (name : List ℕ) where
  -- the first bytes show a file that is too long as well
  front : (b : List ℕ) → bytes_held limit name (Some (take (limit + 1) b)) ≡ bytes_held limit name (Some b)
  front b = by (nat_lt limit (length b)) refl
    where
      by : (t : Bool) → nat_lt limit (length b) ≡ t → bytes_held limit name (Some (take (limit + 1) b)) ≡ bytes_held limit name (Some b)
      by true e = rw (e, long_front limit b (grind (arith, nat_tests))) refl
      by false e = ap (λ (x : List ℕ). bytes_held limit name (Some x)) (take_short (limit + 1) b (grind (arith, nat_tests)))

  held_front : (bytes : List ℕ) (h : Option (List ℕ)) → option_map (take (limit + 1)) h ≡ Some bytes → bytes_held limit name h ≡ bytes_held limit name (Some bytes)
  held_front bytes None e = cc
  held_front bytes (Some b) e = let same : take (limit + 1) b ≡ bytes = cc in sym (front b) ∙ ap (λ (x : List ℕ). bytes_held limit name (Some x)) same

  pub bytes_told : (holds : Option Files) (loaded : Loaded) (bytes : Vec ℕ Global) (r : Result (Vec ℕ Global) ReadFault) → loaded ≡ Bytes bytes → IfSome holds (λ files. Loads files name limit (Ok loaded))
      → ReadsAs (λ (v : Vec ℕ Global). v.items) (bytes_held limit name (Some bytes.items)) r → IfSome holds (λ files. ReadsAs (λ (v : Vec ℕ Global). v.items) (file_bytes limit files name) r)
  unfolding file_bytes
  bytes_told None loaded bytes r is told reads = tt
  bytes_told (Some files) loaded bytes r is told reads =
      let P : Result (List ℕ) Fault → Type 0 = λ said. ReadsAs (λ (v : Vec ℕ Global). v.items) said r in
      subst P (sym (held_front bytes.items (held files name) (rw is at told))) reads

-- ---- articles

-- bytes that were loaded are those of the article
pub article_read : (holds : Option Files) (entities : List Entity) (name : List ℕ) (bytes : Vec ℕ Global) (r : Result Node ReadFault) → IfSome holds (λ files. ReadsAs (λ (v : Vec ℕ Global). v.items) (file_bytes most_bytes files name) (Ok bytes))
    → Reads (article_from entities name bytes.items) r → IfSome holds (λ files. Reads (article_in files entities name) r)
article_read None entities name bytes r told reads = tt
article_read (Some files) entities name bytes r told reads =
    let P : Result (List ℕ) Fault → Type 0 = λ said. Reads (said >>= article_from entities name) r in
    subst P (sym told) reads

-- nor is an article read where they were not
pub article_unread : (holds : Option Files) (entities : List Entity) (name : List ℕ) (f : ReadFault) → IfSome holds (λ files. ReadsAs (λ (v : Vec ℕ Global). v.items) (file_bytes most_bytes files name) (Err f))
    → IfSome holds (λ files. Reads {T = Node} (article_in files entities name) (Err f))
article_unread None entities name f told = tt
article_unread (Some files) entities name (fault.Refused refusal) told = ap (λ (said : Result (List ℕ) Fault). said >>= article_from entities name) told
article_unread (Some files) entities name fault.LoadFailed told = tt
article_unread (Some files) entities name fault.NoMemory told = tt
