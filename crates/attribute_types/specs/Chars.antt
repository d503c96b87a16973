-- Classes whose tokens and texts are of Chars, and the values that are chosen from them (XML 1.0, 2.2).
use Rattle.std.specs.Prelude.{Bool, true, None, Some, IsTrue}
use Rattle.std.specs.List.{list_all}
use Rattle.jats_chars.specs.Chars.{are_chars}
use Rattle.attribute_types.specs.declared.types.AttType.{AttType}
use Rattle.attribute_types.specs.declared.types.Preset.{Preset}
use Rattle.attribute_types.specs.declared.types.Preset.TheVariants as preset
use Rattle.attribute_types.specs.declared.classes.ValueClass.{ValueClass}
use Rattle.attribute_types.specs.declared.classes.ValueClass.TheVariants.{Any, Name, Names, Nmtoken, Nmtokens, Tokens, Fixed, FixedToken}
use Rattle.attribute_types.specs.Proper.{IsProper, sample_of}
use Rattle.attribute_types.specs.Table.{Uncovered, uncovered}
use Rattle.attribute_types.specs.Types.{class_of_type, class_of}

-- whether the tokens or the text of a class are of Chars
abbrev pub has_chars : ValueClass → Bool
has_chars Any = true
has_chars Name = true
has_chars Names = true
has_chars Nmtoken = true
has_chars Nmtokens = true
has_chars (Tokens tokens) = list_all are_chars tokens
has_chars (Fixed text) = are_chars text
has_chars (FixedToken text) = are_chars text

-- whether the value of a preset is of Chars, where there is one
abbrev pub preset_has_chars : Preset → Bool
preset_has_chars preset.Required = true
preset_has_chars preset.Implied = true
preset_has_chars (preset.Value text) = are_chars text
preset_has_chars (preset.Fixed text) = are_chars text

-- whether the value is of Chars, where there is one
abbrev pub is_of_chars : Uncovered → Bool
is_of_chars None = true
is_of_chars (Some value) = are_chars value

-- ---- what they say

-- a class that a type and a preset give is of Chars
abbrev pub ClassOfChars : Type 0
ClassOfChars = (kind : AttType) (preset : Preset) → IsProper (class_of_type kind) → IsTrue (preset_has_chars preset) → IsTrue (has_chars (class_of kind preset))

-- the sample of a class of Chars is of Chars
abbrev pub SampleOfChars : Type 0
SampleOfChars = (class : ValueClass) → IsTrue (has_chars class) → IsTrue (are_chars (sample_of class))

-- a value of a class of Chars that is not in another class is of Chars
abbrev pub UncoveredOfChars : Type 0
UncoveredOfChars = (first second : ValueClass) → IsTrue (has_chars first) → IsTrue (is_of_chars (uncovered first second))
