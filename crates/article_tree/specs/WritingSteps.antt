-- Elements of which the end is still to be written.
use Rattle.std.specs.Prelude.{◌≡◌, ◌<◌, ℕ, ◌+◌, List, [], ◌∷◌, ◌++◌}
use Rattle.document_trees.specs.Trees.{Items}
use Rattle.document_trees.specs.Trees as tree
use Rattle.document_trees.specs.Seen.{items_of}
use Rattle.document_trees.specs.declared.nodes.Item.{Item}
use Rattle.article_tree.specs.Writing.{written, end_tag}
use Rattle.article_tree.specs.declared.writing.Waiting.{Waiting}
use Rattle.article_tree.specs.declared.writing.Writing.{Writing}

-- the end tag of an element, and the items behind it
abbrev pub tail_of : Waiting → List ℕ
tail_of w = end_tag w.name.now ++ written (items_of w.later.now)

-- those of elements inside one another, the first being the outermost
abbrev pub ends_of : List Waiting → List ℕ
ends_of [] = []
ends_of (w ∷ ws) = ends_of ws ++ tail_of w

-- how many steps it takes to write items
abbrev pub steps_in : Items → ℕ
steps_in tree.nothing = 0
steps_in (tree.element name atts inside later) = 2 + steps_in inside + steps_in later
steps_in (tree.chars text plain later) = 1 + steps_in later
steps_in (tree.comment text later) = 1 + steps_in later
steps_in (tree.pi target body later) = 1 + steps_in later

abbrev pub all_steps : List Waiting → ℕ
all_steps [] = 0
all_steps (w ∷ ws) = (1 + steps_in (items_of w.later.now)) + all_steps ws

-- what is written, with all that is still to be written
abbrev pub whole : List ℕ → List Item → List Waiting → List ℕ
whole out items waiting = out ++ (written (items_of items) ++ ends_of waiting)

abbrev pub steps : List Item → List Waiting → ℕ
steps items waiting = steps_in (items_of items) + all_steps waiting

unfoldable pub whole_of : Writing → List ℕ
whole_of w = whole w.out w.items.now w.waiting.items

unfoldable pub steps_of : Writing → ℕ
steps_of w = steps w.items.now w.waiting.items

-- the text stays the same, and comes nearer to its end, where these items come next
abbrev pub WritesOn : List Item → Writing → Writing → Type 0
WritesOn items old new = (whole_of new ≡ whole old.out items old.waiting.items) × (steps_of new < steps items old.waiting.items)

abbrev pub Writes : Writing → Writing → Type 0
Writes old new = (whole_of new ≡ whole_of old) × (steps_of new < steps_of old)
