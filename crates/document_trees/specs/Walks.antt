-- What a walk over the nodes of a tree still gives.
use Rattle.std.specs.Prelude.{List, [], ◌∷◌, ◌++◌, Option, Some, None, length, take, map, ◌-◌}
use Rattle.std.specs.Borrow.{Bor}
use Rattle.document_trees.specs.Trees.{Node, nodes_below, nodes_in}
use Rattle.document_trees.specs.Seen.{items_of}
use Rattle.document_trees.specs.declared.nodes.Item.{Item}

-- the nodes in these lists of items, those of the last list first
abbrev pub left_of : List (List Item) → List Node
left_of [] = []
left_of (items ∷ lists) = left_of lists ++ nodes_below (items_of items)

-- the nodes in lists that are lent, and in all of them but the last
abbrev pub left_in : List (Bor (List Item)) → List Node
left_in lists = left_of (map (λ items. items.now) lists)

abbrev pub left_under : List (Bor (List Item)) → List Node
left_under lists = left_in (take (length lists - 1) lists)

-- the nodes of the tree where its top is not given yet
abbrev pub from_top : Option Node → List Node
from_top None = []
from_top (Some node) = nodes_in node

-- the nodes from an element on, with those in it and those in the items after it
abbrev pub from_element : Option (Node × List Item) → List Node
from_element None = []
from_element (Some found) = found.0 ∷ nodes_below found.0.items ++ nodes_below (items_of found.1)
