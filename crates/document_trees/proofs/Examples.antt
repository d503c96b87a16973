-- The definitions on `<a>t<b><c/></b><!--t--><d/></a>`, whose names and texts are numbers.
use Rattle.std.proofs.Common.{◌≡◌, List, [], ◌∷◌, false, map, refl}
use Rattle.document_trees.specs.Trees.{Items, nothing, element, chars, comment, Node, nodes_in, size, depth, bare, child_names, joined}

abbrev inside : Items
inside = chars (7 ∷ []) false (element (2 ∷ []) [] (element (3 ∷ []) [] nothing nothing) (comment (7 ∷ []) (element (4 ∷ []) [] nothing nothing)))

abbrev tree : Node
tree = record { name = 1 ∷ []; atts = []; items = inside }

in_document_order : map (λ (node : Node). node.name) (nodes_in tree) ≡ (1 ∷ []) ∷ (2 ∷ []) ∷ (3 ∷ []) ∷ (4 ∷ []) ∷ []
in_document_order = refl

four_nodes : size tree ≡ 4
four_nodes = refl

three_open : depth tree ≡ 3
three_open = refl

elements_alone : bare inside ≡ element (2 ∷ []) [] (element (3 ∷ []) [] nothing nothing) (element (4 ∷ []) [] nothing nothing)
elements_alone = refl

after_others : child_names (joined inside (element (5 ∷ []) [] nothing nothing)) ≡ (2 ∷ []) ∷ (4 ∷ []) ∷ (5 ∷ []) ∷ []
after_others = refl
