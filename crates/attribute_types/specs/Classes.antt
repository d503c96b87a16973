-- The classes of values (XML 1.0, 3.3.1 and 3.3.3).
use Rattle.std.specs.Prelude.{ℕ, Bool, true, bytes_eq, List}
use Rattle.std.specs.List.{list_any}
use Rattle.jats_chars.specs.Names.{is_name, is_names, is_nmtoken, is_nmtokens}
use Rattle.attribute_types.specs.Spacing.{collapsed}
use Rattle.attribute_types.specs.declared.classes.ValueClass.{ValueClass}
use Rattle.attribute_types.specs.declared.classes.ValueClass.TheVariants.{Any, Name, Names, Nmtoken, Nmtokens, Tokens, Fixed, FixedToken}

-- whether the text is one of the list
abbrev pub among : List (List ℕ) → List ℕ → Bool
among tokens text = list_any (bytes_eq text) tokens

-- whether the value is in the class
abbrev pub in_class : ValueClass → List ℕ → Bool
in_class Any value = true
in_class Name value = is_name (collapsed value)
in_class Names value = is_names (collapsed value)
in_class Nmtoken value = is_nmtoken (collapsed value)
in_class Nmtokens value = is_nmtokens (collapsed value)
in_class (Tokens tokens) value = among tokens (collapsed value)
in_class (Fixed text) value = bytes_eq value text
in_class (FixedToken text) value = bytes_eq (collapsed value) text
