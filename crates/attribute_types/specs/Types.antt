-- The class of a type and a preset (XML 1.0, 3.3.1 and 3.3.2).
use Rattle.std.specs.Prelude.{ℕ, List}
use Rattle.attribute_types.specs.declared.types.AttType.{AttType}
use Rattle.attribute_types.specs.declared.types.AttType.TheVariants as kind
use Rattle.attribute_types.specs.declared.types.Preset.{Preset}
use Rattle.attribute_types.specs.declared.types.Preset.TheVariants as preset
use Rattle.attribute_types.specs.declared.classes.ValueClass.{ValueClass}
use Rattle.attribute_types.specs.declared.classes.ValueClass.TheVariants.{Any, Name, Names, Nmtoken, Nmtokens, Tokens, Fixed, FixedToken}

-- the class of a type alone
abbrev pub class_of_type : AttType → ValueClass
class_of_type kind.Cdata = Any
class_of_type kind.Id = Name
class_of_type kind.Idref = Name
class_of_type kind.Idrefs = Names
class_of_type kind.Entity = Name
class_of_type kind.Entities = Names
class_of_type kind.Nmtoken = Nmtoken
class_of_type kind.Nmtokens = Nmtokens
class_of_type (kind.Notation names) = Tokens names
class_of_type (kind.Enumeration tokens) = Tokens tokens

-- the class of a fixed value
abbrev pub class_of_fixed : AttType → List ℕ → ValueClass
class_of_fixed kind.Cdata text = Fixed text
class_of_fixed kind.Id text = FixedToken text
class_of_fixed kind.Idref text = FixedToken text
class_of_fixed kind.Idrefs text = FixedToken text
class_of_fixed kind.Entity text = FixedToken text
class_of_fixed kind.Entities text = FixedToken text
class_of_fixed kind.Nmtoken text = FixedToken text
class_of_fixed kind.Nmtokens text = FixedToken text
class_of_fixed (kind.Notation names) text = FixedToken text
class_of_fixed (kind.Enumeration tokens) text = FixedToken text

-- the class of the values that an attribute may have
abbrev pub class_of : AttType → Preset → ValueClass
class_of kind preset.Required = class_of_type kind
class_of kind preset.Implied = class_of_type kind
class_of kind (preset.Value text) = class_of_type kind
class_of kind (preset.Fixed text) = class_of_fixed kind text
