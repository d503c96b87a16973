-- How much a set declares.
use Rattle.std.specs.Prelude.{ℕ, List, [], ◌∷◌, ◌++◌, length, codes}
use Rattle.std.specs.Fmt.{decimal}
use Rattle.std.specs.List.{sum_by}
use Rattle.decl_set.specs.Declarations.{Declarations, AttributesOf}

abbrev pub list_length : AttributesOf → ℕ
list_length list = length list.1

-- the attributes of all lists together, also of elements that are not declared
abbrev pub attribute_count : Declarations → ℕ
attribute_count set = sum_by list_length set.lists

-- how many elements, attributes, general entities and notations there are, each on a line
unfoldable pub count_lines : Declarations → List ℕ
count_lines set =
    codes "ok\nelements " ++ (decimal (length set.elements) ++ (codes "\nattributes " ++ (decimal (attribute_count set)
    ++ (codes "\nentities " ++ (decimal (length set.entities) ++ (codes "\nnotations " ++ (decimal (length set.notations) ++ 10 ∷ [])))))))
