-- The required attributes of an element, and what is known of the values that show an odd one.
use Rattle.std.specs.Prelude.{◌≡◌, ℕ, Bool, true, List, [], Option, None, Some, unwrap_or, IsTrue}
use Rattle.std.specs.List.{list_all, flat_map}
use Rattle.jats_chars.specs.Chars.{are_chars}
use Rattle.attribute_types.specs.Chars.{has_chars}
use Rattle.attlist_merge.specs.declared.odd.OddAtt.{OddAtt}
use Rattle.attlist_merge.specs.declared.odd.OddAtt.TheVariants.{Undeclared, Value, Missing}
use Rattle.attlist_merge.specs.Lists.{Definitions, IsKept}
use Rattle.attlist_merge.specs.Values.{Values, is_right, are_apart}
use Rattle.attlist_merge.specs.Oddness.{chosen, odd_of, shown_by}

-- the attributes of an element: none where it has no list
abbrev pub attributes : Option Definitions → Definitions
attributes list = unwrap_or list []

-- the required attributes with their samples, in order of declaration
abbrev pub required_of : Definitions → Values
required_of list = flat_map (λ e. chosen None e) list

-- whether the class of each attribute is of Chars
abbrev pub classes_have_chars : Definitions → Bool
classes_have_chars list = list_all (λ e. has_chars e.1.class) list

-- whether the value of an odd attribute is of Chars, where there is one
abbrev pub odd_has_chars : OddAtt → Bool
odd_has_chars (Undeclared name value) = are_chars value
odd_has_chars (Value name value) = are_chars value
odd_has_chars (Missing name) = true

-- whether each value is of Chars
abbrev pub values_have_chars : Values → Bool
values_have_chars values = list_all (λ value. are_chars value.1) values

-- ---- what they say

-- the required attributes with their samples are right by the list, and their names differ
abbrev pub RequiredRight : Type 0
RequiredRight = (list : Definitions) → IsKept list → IsTrue (is_right list (required_of list)) × IsTrue (are_apart (required_of list))

-- their samples are of Chars where the classes are
abbrev pub RequiredHasChars : Type 0
RequiredHasChars = (list : Definitions) → IsTrue (classes_have_chars list) → IsTrue (values_have_chars (required_of list))

-- a test that the names of the list pass, their names pass
abbrev pub RequiredNamed : Type 0
RequiredNamed = (p : List ℕ → Bool) (list : Definitions) → IsTrue (list_all (λ e. p e.0) list) → IsTrue (list_all (λ value. p value.0) (required_of list))

-- the value of an odd attribute is of Chars where the classes of the first list are
abbrev pub OddHasChars : Type 0
OddHasChars = (first second : Definitions) (odd : OddAtt) → IsTrue (classes_have_chars first) → odd_of first second ≡ Some odd → IsTrue (odd_has_chars odd)

-- and so are the values that show it
abbrev pub ShownHasChars : Type 0
ShownHasChars = (odd : OddAtt) (list : Definitions) → IsTrue (odd_has_chars odd) → IsTrue (classes_have_chars list) → IsTrue (values_have_chars (shown_by odd list))

-- a test that the names of the list pass, the names of these values pass
abbrev pub ShownNamed : Type 0
ShownNamed = (p : List ℕ → Bool) (odd : OddAtt) (list : Definitions) → IsTrue (list_all (λ e. p e.0) list) → IsTrue (list_all (λ value. p value.0) (shown_by odd list))
