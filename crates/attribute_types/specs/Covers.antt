-- Classes within classes.
use Rattle.std.specs.Prelude.{ℕ, List, IsTrue}
use Rattle.attribute_types.specs.Classes.{in_class}
use Rattle.attribute_types.specs.declared.classes.ValueClass.{ValueClass}

-- every value of the first class is in the second
abbrev pub Covers : ValueClass → ValueClass → Type 0
Covers first second = (value : List ℕ) → IsTrue (in_class first value) → IsTrue (in_class second value)
