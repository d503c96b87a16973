-- How many bytes the text of a node has in UTF-8.
use Rattle.std.specs.Prelude.{◌≡◌, ◌<◌, ℕ, ◌+◌, Bool, true, false, if◌then◌else◌, Option, Some, None, length, List, [], ◌∷◌, encode_utf8_all}
use Rattle.std.specs.List.{flat_map}
use Rattle.document_trees.specs.Trees.{Attribute, Items, Node}
use Rattle.document_trees.specs.Trees as tree
use Rattle.tree_costs.specs.Beside.{Front}
use Rattle.article_tree.specs.Writing.{value_char, written_run, written_comment, written_pi, write}

-- the bytes of a text
abbrev pub bytes : List ℕ → ℕ
bytes text = length (encode_utf8_all text)

-- an attribute, with the space in front of it, its `=` and its quotes
abbrev pub attribute_size : Attribute → ℕ
attribute_size a = 4 + bytes a.0 + bytes (flat_map value_char a.1)

abbrev pub atts_size : List Attribute → ℕ
atts_size [] = 0
atts_size (a ∷ atts) = attribute_size a + atts_size atts

-- the tags of an element without its attributes: one tag where it is empty, else two
abbrev pub names_size : List ℕ → Bool → ℕ
names_size name empty = 3 + bytes name + (if empty then 0 else 2 + bytes name)

abbrev pub is_empty : Items → Bool
is_empty tree.nothing = true
is_empty items = false

-- a run in front, where there is one
abbrev pub front_size : Front → ℕ
front_size None = 0
front_size (Some run) = bytes (written_run run.0 run.1)

-- the text of items
abbrev pub items_size : Items → ℕ
items_size tree.nothing = 0
items_size (tree.element name atts inside later) = names_size name (is_empty inside) + atts_size atts + items_size inside + items_size later
items_size (tree.chars text plain later) = bytes (written_run text plain) + items_size later
items_size (tree.comment text later) = bytes (written_comment text) + items_size later
items_size (tree.pi target body later) = bytes (written_pi target body) + items_size later

-- the text of a node
abbrev pub written_size : Node → ℕ
written_size node = names_size node.name (is_empty node.items) + atts_size node.atts + items_size node.items

-- it is as long as what is written of the node
abbrev pub SizeOfText : Type 0
SizeOfText = (node : Node) → written_size node ≡ length (encode_utf8_all (write node))

-- so many bytes are taken from those that are left, and these stay, or there are not so many
abbrev pub Spends : ℕ → ℕ → Option ℕ → Type 0
Spends left n None = left < n
Spends left n (Some rest) = rest + n ≡ left
