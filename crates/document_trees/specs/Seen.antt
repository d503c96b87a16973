-- A node of a program as a document.
use Rattle.std.specs.Prelude.{List, [], ◌∷◌}
use Rattle.document_trees.specs.Trees as trees
use Rattle.document_trees.specs.declared.nodes.Item.{Item}
use Rattle.document_trees.specs.declared.nodes.Item.TheVariants.{Element, Chars, Comment, Pi}

-- an item in front of later ones
abbrev pub put : Item → trees.Items → trees.Items
put (Element node) later = trees.element node.name node.atts node.items later
put (Chars text plain) later = trees.chars text plain later
put (Comment text) later = trees.comment text later
put (Pi target body) later = trees.pi target body later

-- the items in order
abbrev pub items_of : List Item → trees.Items
items_of [] = trees.nothing
items_of (item ∷ items) = put item (items_of items)

-- the items of a program that stand for items of a document
abbrev pub items_for : trees.Items → List Item
items_for trees.nothing = []
items_for (trees.element name atts inside later) = Element (record { name = name; atts = atts; items = inside }) ∷ items_for later
items_for (trees.chars text plain later) = Chars text plain ∷ items_for later
items_for (trees.comment text later) = Comment text ∷ items_for later
items_for (trees.pi target body later) = Pi target body ∷ items_for later
