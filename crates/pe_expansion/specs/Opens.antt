-- What the opening of a reference by itself answers.
use Rattle.std.specs.Prelude.{◌≡◌, ℕ, List, Some, slice_get, Result, Ok, Err}
use Rattle.pe_expansion.specs.Bound.{Bound, text_in}
use Rattle.pe_expansion.specs.Outcomes.{Fails}
use Rattle.pe_expansion.specs.declared.bindings.PeText.{PeText}
use Rattle.pe_expansion.specs.declared.faults.PeFault.{PeFault}
use Rattle.pe_expansion.specs.declared.openings.Opened.{Opened}

-- the text and the count that are said, the text being that of the entity with this name at the number; or the fault that is said
abbrev pub Opens : Bound → List ℕ → Result (List ℕ × ℕ) PeFault → Result Opened PeFault → Type 0
Opens bound name said (Ok opened) =
    (entity : PeText) × (text : List ℕ) × (said ≡ Ok (text, opened.spent)) × (slice_get bound opened.number ≡ Some (name, entity)) × (text_in entity ≡ Some text)
Opens bound name said (Err fault) = Fails fault said
