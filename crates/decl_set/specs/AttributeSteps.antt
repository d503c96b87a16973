-- What the steps of a declaration of attributes ask for, and what they answer.
use Rattle.std.specs.Prelude.{◌≡◌, ℕ, List, ◌++◌, true, IsTrue, Option, Some, None, Result, Ok, Err}
use Rattle.std.specs.Option.{option_map_or}
use Rattle.jats_chars.specs.Names.{is_name}
use Rattle.attribute_types.specs.Proper.{IsProper}
use Rattle.attribute_types.specs.Types.{class_of_type}
use Rattle.attribute_types.specs.declared.types.AttType.{AttType}
use Rattle.attlist_merge.specs.declared.raw.RawPreset.{RawPreset}
use Rattle.attlist_merge.specs.declared.raw.RawPreset.TheVariants as raw
use Rattle.attlist_merge.specs.declared.raw.RawAtt.{RawAtt}
use Rattle.attlist_merge.specs.declared.raw.RawAttList.{RawAttList}
use Rattle.attlist_merge.specs.Lists.{Definitions}
use Rattle.dtd_scanner.specs.Walk.{◌>>=◌}
use Rattle.pe_expansion.specs.Expansion.{Written}
use Rattle.decl_set.specs.Asked.{are_chars}
use Rattle.decl_set.specs.Declarations.{AttributesOf, Entity}
use Rattle.decl_set.specs.Declaring.{settled, value_fault, with_all, with_list}
use Rattle.decl_set.specs.Outcomes.{Fails}
use Rattle.decl_set.specs.declared.faults.DeclFault.{DeclFault}
use Rattle.decl_set.specs.declared.faults.ValueFault.{ValueFault}

-- the value of a definition as it is written
abbrev pub written_in : RawPreset → Option (List ℕ)
written_in raw.Required = None
written_in raw.Implied = None
written_in (raw.Value text) = Some text
written_in (raw.Fixed text) = Some text

-- a definition as it is read: its name is a Name, the list of its tokens is not empty and holds Nmtokens, and its value is
-- of Chars
pub record IsWellRead (a : RawAtt) : Type 0 where
  pub named : IsTrue (is_name a.name)
  pub tokens : IsProper (class_of_type a.kind)
  pub chars : IsTrue (option_map_or are_chars (written_in a.preset) true)

-- a value as it is kept, with the count of included characters
abbrev pub kept_text : AttType → List ℕ → Result Written ValueFault → Result (List ℕ × ℕ) DeclFault
kept_text kind name (Ok w) = Ok (settled kind w.text, w.spent)
kept_text kind name (Err f) = Err (value_fault name f)

-- a step that reads: its answer and the new count are what a definition says, or its fault is
abbrev pub Reads : {X : Type 0} → Result (X × ℕ) DeclFault → ℕ → Result X DeclFault → Type 0
Reads said spent (Ok x) = said ≡ Ok (x, spent)
Reads said spent (Err f) = Fails f said

-- a step that adds to a list: the new list and the new count are what a definition says; or its fault is, and the old list
-- is the front of the new one
abbrev pub Grows : {X : Type 0} → Result (Definitions × ℕ) DeclFault → Definitions → Definitions → ℕ → Result X DeclFault → Type 0
Grows said old new spent (Ok x) = said ≡ Ok (new, spent)
Grows said old new spent (Err f) = Fails f said × ((more : Definitions) × (new ≡ old ++ more))

-- the lists with the attributes of a declaration, where their element has this list, and the new count
abbrev pub lists_with : List Entity → List AttributesOf → ℕ → RawAttList → Definitions → Result (List AttributesOf × ℕ) DeclFault
lists_with entities lists spent raw list = with_all entities raw.element list spent raw.atts >>= λ r. Ok (with_list lists raw.element r.0, r.1)

-- a change: what is there is what a definition says, or the fault is, and it is as it was
abbrev pub Changes : {S X : Type 0} → Result S DeclFault → S → S → Result X DeclFault → Type 0
Changes said old new (Ok x) = said ≡ Ok new
Changes said old new (Err f) = Fails f said × (new ≡ old)
