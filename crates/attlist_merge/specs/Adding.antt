-- What adding an attribute answers: the first definition of a name binds (XML 1.0, 3.3).
use Rattle.std.specs.Prelude.{◌≡◌, ℕ, Bool, true, false, ◌&&◌, List, [], ◌∷◌, ◌++◌, Option, Some, None, is_some, IsTrue, if◌then◌else◌, Result, Ok, Err}
use Rattle.attribute_types.specs.Types.{class_of_type, class_of}
use Rattle.attribute_types.specs.Proper.{IsProper}
use Rattle.attribute_types.specs.declared.types.AttType.{AttType}
use Rattle.attribute_types.specs.declared.types.Preset.{Preset}
use Rattle.attlist_merge.specs.declared.list.Att.{Att}
use Rattle.attlist_merge.specs.declared.list.Definition.{Definition}
use Rattle.attlist_merge.specs.declared.list.AttFault.{AttFault}
use Rattle.attlist_merge.specs.declared.list.AttFault.TheVariants as fault
use Rattle.attlist_merge.specs.Lists.{Definitions, definition_of, doubled, has_id_value, is_outside, is_settled, is_id, has_id, is_notation, has_notation}

-- what is asked of an attribute: its token list is not empty and holds Nmtokens, and its value is collapsed
pub record IsReady (att : Att) : Type 0 where
  pub tokens : IsProper (class_of_type att.kind)
  pub settled : IsTrue (is_settled att.kind att.preset)

abbrev pub defined : Att → Definition
defined att = record { kind = att.kind; preset = att.preset; class = class_of att.kind att.preset }

abbrev pub is_there : Definitions → Att → Bool
is_there list att = is_some (definition_of list att.name)

-- a doubled token, else the other fault
abbrev pub or_doubled : Option (List ℕ) → Option AttFault → Option AttFault
or_doubled None other = other
or_doubled (Some token) other = Some (fault.DuplicateToken token)

-- a second ID or a second NOTATION
abbrev pub second_fault : Definitions → AttType → Option AttFault
second_fault list kind =
    if is_id kind && has_id list then Some fault.SecondId
    else (if is_notation kind && has_notation list then Some fault.SecondNotation else None)

-- the first fault of an attribute of this type and preset that joins the list
abbrev pub fault_of : Definitions → AttType → Preset → Option AttFault
fault_of list kind preset =
    or_doubled (doubled kind)
    (if has_id_value kind preset then Some fault.IdPreset
    else (if is_outside kind preset then Some fault.PresetNotInClass
    else second_fault list kind))

-- the fault is answered where there is one
abbrev pub Checks : Option AttFault → Result (Unit {0}) AttFault → Type 0
Checks found (Ok done) = found ≡ None
Checks found (Err fault.NoMemory) = Unit {0}
Checks found (Err (fault.DuplicateToken token)) = found ≡ Some (fault.DuplicateToken token)
Checks found (Err fault.IdPreset) = found ≡ Some fault.IdPreset
Checks found (Err fault.PresetNotInClass) = found ≡ Some fault.PresetNotInClass
Checks found (Err fault.SecondId) = found ≡ Some fault.SecondId
Checks found (Err fault.SecondNotation) = found ≡ Some fault.SecondNotation

-- a name that is there is passed over; else the first fault is answered, and an attribute without fault goes last
abbrev pub Adds : Definitions → Definitions → Att → Result Bool AttFault → Type 0
Adds old new att (Ok true) = (is_there old att ≡ false) × (fault_of old att.kind att.preset ≡ None) × (new ≡ old ++ (att.name, defined att) ∷ [])
Adds old new att (Ok false) = IsTrue (is_there old att) × (new ≡ old)
Adds old new att (Err fault.NoMemory) = new ≡ old
Adds old new att (Err (fault.DuplicateToken token)) = (is_there old att ≡ false) × (fault_of old att.kind att.preset ≡ Some (fault.DuplicateToken token)) × (new ≡ old)
Adds old new att (Err fault.IdPreset) = (is_there old att ≡ false) × (fault_of old att.kind att.preset ≡ Some fault.IdPreset) × (new ≡ old)
Adds old new att (Err fault.PresetNotInClass) = (is_there old att ≡ false) × (fault_of old att.kind att.preset ≡ Some fault.PresetNotInClass) × (new ≡ old)
Adds old new att (Err fault.SecondId) = (is_there old att ≡ false) × (fault_of old att.kind att.preset ≡ Some fault.SecondId) × (new ≡ old)
Adds old new att (Err fault.SecondNotation) = (is_there old att ≡ false) × (fault_of old att.kind att.preset ≡ Some fault.SecondNotation) × (new ≡ old)
