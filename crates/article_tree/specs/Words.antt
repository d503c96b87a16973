-- What the grammar and the reading both speak of.
use Rattle.std.specs.Prelude.{ℕ, Bool, true, false, List, [], ◌∷◌, Option, Some, None, if◌then◌else◌}
use Rattle.jats_chars.specs.declared.limits.TheConstants as limit
use Rattle.jats_chars.specs.Classes.{is_space}
use Rattle.document_trees.specs.Trees.{Attribute, has_attribute}
use Rattle.article_tree.specs.Tokens.{Token, letter, remark, instruction}

-- names, as those of the entities that are open
abbrev pub Names : Type 0
Names = List (List ℕ)

-- how many elements may be open
abbrev pub most_elements : ℕ
most_elements = limit.OPEN_ELEMENTS

-- the first attribute that has the name of an earlier one
abbrev pub repeated : List Attribute → List Attribute → Option (List ℕ)
repeated earlier [] = None
repeated earlier (a ∷ atts) = if has_attribute earlier a.0 then Some a.0 else repeated (a ∷ earlier) atts

-- white space, a comment or a processing instruction
abbrev pub is_misc : Token → Bool
is_misc (letter c) = is_space c
is_misc (remark text) = true
is_misc (instruction target body) = true
is_misc token = false
