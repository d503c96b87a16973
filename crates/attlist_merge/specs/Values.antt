-- Attributes of a node: names with their values (XML 1.0, 3.1 and 3.3.1).
use Rattle.std.specs.Prelude.{ℕ, Bool, true, false, not, ◌&&◌, ◌||◌, List, [], ◌∷◌, bytes_eq, IsTrue}
use Rattle.std.specs.List.{list_any, list_all}
use Rattle.std.specs.Option.{option_map_or}
use Rattle.attribute_types.specs.Classes.{in_class}
use Rattle.attlist_merge.specs.Lists.{Entry, Definitions, definition_of, is_required}

abbrev pub Values : Type 0
Values = List (List ℕ × List ℕ)

-- the attribute is declared, and its value is in its class
abbrev pub is_allowed : Definitions → (List ℕ × List ℕ) → Bool
is_allowed list value = option_map_or (λ d. in_class d.class value.1) (definition_of list value.0) false

-- the attribute is there, where it is required
abbrev pub is_given : Values → Entry → Bool
is_given values e = not (is_required e.1.preset) || list_any (λ value. bytes_eq e.0 value.0) values

-- each attribute is declared and in its class, and each required one is there
abbrev pub is_right : Definitions → Values → Bool
is_right list values = list_all (is_allowed list) values && list_all (is_given values) list

-- every list of values that is right by the first is right by the second
abbrev pub CoversList : Definitions → Definitions → Type 0
CoversList first second = (values : Values) → IsTrue (is_right first values) → IsTrue (is_right second values)

-- no name stands twice among the values
abbrev pub are_apart : Values → Bool
are_apart [] = true
are_apart (value ∷ values) = not (list_any (λ other. bytes_eq value.0 other.0) values) && are_apart values
