-- Texts that wait, and what is left to do.
use Rattle.std.specs.Prelude.{◌≡◌, ◌<◌, ◌≤◌, Bool, true, false, ℕ, suc, ◌+◌, ◌-◌, ◌*◌, List, [], ◌∷◌, ◌++◌, length, take, drop, Option, Some, None, IsSome, slice_get, Result, Ok, Err}
use Rattle.std.specs.List.{AllByRecursion}
use Rattle.std.specs.Option.{option_map_or}
use Rattle.dtd_scanner.specs.Scanning.{first_item}
use Rattle.dtd_scanner.specs.Walk.{◌>>=◌, over}
use Rattle.dtd_scanner.specs.declared.item.ItemKind.{ItemKind}
use Rattle.dtd_scanner.specs.declared.item.ItemKind.TheVariants.{Blank, Comment, Pi, Reference, SectionStart, ElementDecl, AttlistDecl, EntityDecl, NotationDecl}
use Rattle.jats_fault.specs.declared.fault.Fault.{Fault}
use Rattle.entity_catalog.specs.Named.{Named}
use Rattle.pe_expansion.specs.Bound.{text_bound}
use Rattle.module_reader.specs.Moves.{AreChars, loaded_at}
use Rattle.module_reader.specs.Reading.{Names, Local, item_step, reading, ended, ends_section, section_by, standing_of}
use Rattle.module_reader.specs.Sources.{Files, Source}
use Rattle.module_reader.specs.declared.refusals.Stop.{Stop}
use Rattle.module_reader.specs.declared.refusals.Stop.TheVariants as fault
use Rattle.module_reader.specs.declared.frames.Frame.{Frame}
use Rattle.module_reader.specs.declared.frames.Start.{Start}
use Rattle.module_reader.specs.declared.frames.Start.TheVariants.{Included, Ignored}
use Rattle.module_reader.specs.declared.frames.Work.{Work}
use Rattle.module_reader.specs.declared.standing.Standing.{Standing}
use Rattle.module_reader.specs.declared.state.State.{State}

-- A text that is read up to a place: the names that are open in it, where it stands, and where its open sections start.
pub record Passage : Type 0 where
  pub text : List ℕ
  pub names : Names
  pub standing : Standing
  pub at : ℕ
  pub sections : List ℕ

-- the same text, read up to another place
abbrev pub moved : Passage → ℕ → List ℕ → Passage
moved p at sections = record { text = p.text; names = p.names; standing = p.standing; at = at; sections = sections }

abbrev pub local_of : Passage → State → Local
local_of p s = record { state = s; sections = p.sections }

-- what is left of a text that is read
abbrev pub rest_of : Passage → List ℕ
rest_of p = drop p.at p.text

-- one item of a text, or the end of a section
abbrev pub step : Source → Passage → ℕ → Local → List ℕ → Result (Local × ℕ) Fault
step source p = item_step source (reading (32 - length p.names) source) p.names p.standing

-- what a text still does, from its place on
unfoldable pub from : Source → Passage → State → Result State Fault
from source p s = over (step source p) p.at (local_of p s) (rest_of p) >>= ended p.standing

-- What the texts that wait still do, the first being the outermost: each goes on when the later ones have ended.
abbrev pub resumed : Source → List Passage → State → Result State Fault
resumed source [] s = Ok s
resumed source (p ∷ ps) s = resumed source ps s >>= from source p

-- all that is left to do
abbrev pub left : Source → List Passage → Passage → State → Result State Fault
left source ps p s = from source p s >>= resumed source ps

-- how many characters are not read yet
abbrev pub unread : Passage → ℕ
unread p = length p.text - p.at

abbrev pub all_unread : List Passage → ℕ
all_unread [] = 0
all_unread (p ∷ ps) = unread p + all_unread ps

-- the name and the text of an entity by its number, or of the entry
abbrev pub found : State → Option ℕ → Option (List ℕ × List ℕ)
found s None = slice_get s.modules 0
found s (Some k) = loaded_at s.bound k

abbrev pub text_found : Option (List ℕ × List ℕ) → List ℕ
text_found o = option_map_or (λ e. e.1) o []

-- the text that a frame reads, which the state keeps, with these names open
abbrev pub passage_of : State → Names → Frame → Passage
passage_of s names f = record { text = text_found (found s f.text); names = names; standing = f.standing; at = f.at; sections = f.sections.items }

-- texts that wait: the first n of the names are open in the first text, and one more in each later one
abbrev pub passages_from : State → Names → ℕ → List Frame → List Passage
passages_from s names n [] = []
passages_from s names n (f ∷ fs) = passage_of s (take n names) f ∷ passages_from s names (suc n) fs

abbrev pub passages_of : State → Names → List Frame → List Passage
passages_of s names frames = passages_from s names 0 frames

-- the state has the text of a frame
abbrev pub IsThere : State → Frame → Type 0
IsThere s f = IsSome (found s f.text)

-- the text that is read, and those that wait
abbrev pub current : Work → Passage
current w = passage_of w.state w.names w.frame

abbrev pub waiting : Work → List Passage
waiting w = passages_of w.state w.names w.waiting.items

-- what a work still gives
unfoldable pub left_of : Source → Work → Result State Fault
left_of source w = left source (waiting w) (current w) w.state

-- an upper bound of the steps that are left: what may be included, what is left to read, and the texts that wait
unfoldable pub size_of : Work → ℕ
size_of w = 2 * ((67108864 - w.state.spent) + (unread (current w) + all_unread (waiting w))) + length w.waiting.items

-- the state has all the texts, its texts are of Chars, and as many names are open as texts wait
unfoldable pub IsSound : Work → Type 0
IsSound w = IsThere w.state w.frame × AllByRecursion (IsThere w.state) w.waiting.items × AreChars w.state × (length w.names ≡ length w.waiting.items)

-- the work is sound, and comes nearer to its end
abbrev pub Advances : Work → Work → Type 0
Advances old new = IsSound new × (size_of new < size_of old)

-- a step of the work keeps what it gives, or the refusal is what it gives, unless a load failed or memory ran out
abbrev pub Stepped : {X : Type 0} → Source → Work → Work → Result X Stop → Type 0
Stepped source old new (Ok x) = left_of source new ≡ left_of source old
Stepped source old new (Err (fault.Refused refusal)) = left_of source old ≡ Err refusal
Stepped source old new (Err fault.LoadFailed) = Unit {0}
Stepped source old new (Err fault.NoMemory) = Unit {0}

-- an item of a kind stands where a text is read, and no end of a section, and it ends at the next place
pub record Stands (p : Passage) (kind : ItemKind) (next : ℕ) : Type 0 where
  pub within : next ≤ length p.text
  pub some : p.at < next
  pub no_end : ends_section p.sections (rest_of p) ≡ false
  pub item : first_item (rest_of p) ≡ Ok (record { kind = kind; end = next - p.at })

-- whether an item of a kind is passed over
abbrev pub is_passed : ItemKind → Bool
is_passed Blank = true
is_passed Comment = true
is_passed Pi = true
is_passed kind = false

-- whether an item of a kind is a declaration
abbrev pub is_declaration : ItemKind → Bool
is_declaration ElementDecl = true
is_declaration AttlistDecl = true
is_declaration EntityDecl = true
is_declaration NotationDecl = true
is_declaration kind = false

-- the places of the sections that are open behind the start of one
abbrev pub with_start : Start → List ℕ → ℕ → List ℕ
with_start Included sections at = sections ++ at ∷ []
with_start (Ignored end) sections at = sections

-- where a text is read on behind the start of a section, which ends at this place
abbrev pub end_of : Start → ℕ → ℕ
end_of Included next = next
end_of (Ignored end) next = end

-- What the start of a section leads to by its keyword, where the section starts at a place and its start ends at the next.
abbrev pub Starts : Standing → List ℕ → ℕ → ℕ → List ℕ → Result Start Stop → Type 0
Starts c text at next keyword (Ok start) = (l : Local) → section_by c at l (drop at text) (next - at) l.state keyword ≡ Ok (record { state = l.state; sections = with_start start l.sections at }, end_of start next - at)
Starts c text at next keyword (Err (fault.Refused refusal)) = (l : Local) → section_by c at l (drop at text) (next - at) l.state keyword ≡ Err refusal
Starts c text at next keyword (Err fault.LoadFailed) = ⊥
Starts c text at next keyword (Err fault.NoMemory) = Unit {0}

-- a turn of the work: a step that keeps what it gives, or all is done
abbrev pub Turns : Source → Work → Work → Result Bool Stop → Type 0
Turns source old new (Ok true) = left_of source new ≡ left_of source old
Turns source old new (Ok false) = left_of source old ≡ Ok new.state
Turns source old new (Err (fault.Refused refusal)) = left_of source old ≡ Err refusal
Turns source old new (Err fault.LoadFailed) = Unit {0}
Turns source old new (Err fault.NoMemory) = Unit {0}

-- all is done, or the refusal is what the work gives
abbrev pub Ends : {X : Type 0} → Source → Work → Work → Result X Stop → Type 0
Ends source old new (Ok x) = left_of source old ≡ Ok new.state
Ends source old new (Err (fault.Refused refusal)) = left_of source old ≡ Err refusal
Ends source old new (Err fault.LoadFailed) = Unit {0}
Ends source old new (Err fault.NoMemory) = Unit {0}

-- a turn that goes on comes nearer to the end
abbrev pub Nears : Work → Work → Result Bool Stop → Type 0
Nears old new (Ok true) = Advances old new
Nears old new (Ok false) = Unit {0}
Nears old new (Err fault) = Unit {0}

-- the work in another place of the same text
abbrev pub IsMoved : Work → Work → Type 0
IsMoved old new = new ≡ record old { frame = record old.frame { at = new.frame.at; sections = new.frame.sections } }

-- the work goes on behind the start of a section with this keyword, which ends at the next place
pub record Begun (old new : Work) (next : ℕ) (keyword : List ℕ) : Type 0 where
  pub same : IsMoved old new
  pub later : old.frame.at < new.frame.at
  pub within : new.frame.at ≤ length (current old).text
  pub goes : section_by old.frame.standing old.frame.at (local_of (current old) old.state) (rest_of (current old)) (next - old.frame.at) old.state keyword
      ≡ Ok (record { state = old.state; sections = new.frame.sections.items }, new.frame.at - old.frame.at)

abbrev pub Begins : {X : Type 0} → Work → Work → ℕ → List ℕ → Result X Stop → Type 0
Begins old new next keyword (Ok x) = Begun old new next keyword
Begins old new next keyword (Err (fault.Refused refusal)) = section_by old.frame.standing old.frame.at (local_of (current old) old.state) (rest_of (current old)) (next - old.frame.at) old.state keyword ≡ Err refusal
Begins old new next keyword (Err fault.LoadFailed) = ⊥
Begins old new next keyword (Err fault.NoMemory) = Unit {0}

-- the work reads the text of the entity with this name at the number, and the text that it read waits at the next place
pub record Enters (catalog : Named) (old new : Work) (next : ℕ) (name : List ℕ) (number : ℕ) : Type 0 where
  pub state : new.state ≡ old.state
  pub waits : new.waiting.items ≡ old.waiting.items ++ record old.frame { at = next } ∷ []
  pub text : new.frame.text ≡ Some number
  pub names : new.names ≡ old.names ++ name ∷ []
  pub standing : (files : Files) → new.frame.standing ≡ standing_of (record { files = files; catalog = catalog }) old.frame.standing old.frame.at name (text_bound old.state.bound name)
  pub at : new.frame.at ≡ 0
  pub sections : new.frame.sections.items ≡ []
