-- Elements that are filled one item at a time.
use Rattle.std.specs.Prelude.{◌≡◌, ◌<◌, ℕ, ◌+◌, List, [], ◌∷◌}
use Rattle.document_trees.specs.Trees.{Items, Node, joined}
use Rattle.document_trees.specs.Trees as tree
use Rattle.document_trees.specs.Seen.{items_of}
use Rattle.document_trees.specs.declared.nodes.Item.{Item}
use Rattle.decl_set.specs.Declarations.{Declarations}
use Rattle.article_validator.specs.Filling.{filled_items}
use Rattle.article_validator.specs.declared.filling.Waiting.{Waiting}
use Rattle.article_validator.specs.declared.filling.Filling.{Filling}

-- an element that has some of its items, with the items behind them filled
abbrev pub filled_on : Declarations → Node → List Item → Node
filled_on set node later = record { name = node.name; atts = node.atts; items = joined node.items (filled_items set (items_of later)) }

-- an element that waits, with this one in it and the items behind it filled
abbrev pub put_in : Declarations → Waiting → Node → Node
put_in set w inner = record { name = w.node.name; atts = w.node.atts; items = joined w.node.items (tree.element inner.name inner.atts inner.items (filled_items set (items_of w.later.now))) }

-- elements that wait, the first being the outermost, around this one
abbrev pub around : Declarations → List Waiting → Node → Node
around set [] inner = inner
around set (w ∷ ws) inner = put_in set w (around set ws inner)

-- how many steps it takes to fill items
abbrev pub steps_in : Items → ℕ
steps_in tree.nothing = 0
steps_in (tree.element name atts inside later) = 2 + steps_in inside + steps_in later
steps_in (tree.chars text plain later) = 1 + steps_in later
steps_in (tree.comment text later) = 1 + steps_in later
steps_in (tree.pi target body later) = 1 + steps_in later

abbrev pub all_steps : List Waiting → ℕ
all_steps [] = 0
all_steps (w ∷ ws) = (1 + steps_in (items_of w.later.now)) + all_steps ws

abbrev pub whole : Declarations → Node → List Item → List Waiting → Node
whole set node later waiting = around set waiting (filled_on set node later)

abbrev pub steps : List Item → List Waiting → ℕ
steps later waiting = steps_in (items_of later) + all_steps waiting

-- the element that it comes to
unfoldable pub whole_of : Declarations → Filling → Node
whole_of set f = whole set f.node f.later.now f.waiting.items

unfoldable pub steps_of : Filling → ℕ
steps_of f = steps f.later.now f.waiting.items

-- what it comes to stays the same, and is nearer
abbrev pub Fills : Declarations → Filling → Filling → Type 0
Fills set old new = (whole_of set new ≡ whole_of set old) × (steps_of new < steps_of old)
