-- How many bytes the text of a node has in UTF-8, and how they are counted.
use Rattle.std.specs.Prelude.{◌≡◌, ◌<◌, ℕ, ◌+◌, ◌-◌, ◌^◌, min, List, [], ◌∷◌, length, encode_utf8_all}
use Rattle.std.specs.List.{flat_map}
use Rattle.document_trees.specs.Trees.{Attribute}
use Rattle.document_trees.specs.declared.nodes.Item.{Item}
use Rattle.article_tree.specs.Writing.{value_char}
use Rattle.article_tree.specs.WritingSteps.{steps, whole}
use Rattle.article_tree.specs.declared.sizing.Sizing.{Sizing}

-- the bytes of a text
abbrev pub bytes : List ℕ → ℕ
bytes text = length (encode_utf8_all text)

-- the number, or the last value of a counter where it is greater
abbrev pub capped : ℕ → ℕ
capped n = min n (2 ^ 64 - 1)

-- so many more are counted
abbrev pub Counts : ℕ → ℕ → ℕ → Type 0
Counts before more after = after ≡ capped (before + more)

-- an attribute, with the space in front of it, its `=` and its quotes
abbrev pub attribute_size : Attribute → ℕ
attribute_size a = 4 + (bytes a.0 + bytes (flat_map value_char a.1))

abbrev pub atts_size : List Attribute → ℕ
atts_size [] = 0
atts_size (a ∷ atts) = attribute_size a + atts_size atts

-- ---- a count under way

-- what is counted, with all that is still to be counted
unfoldable pub total_of : Sizing → ℕ
total_of s = capped (s.total + bytes (whole [] s.items.now s.waiting.items))

unfoldable pub steps_of : Sizing → ℕ
steps_of s = steps s.items.now s.waiting.items

-- it comes to the same, and comes nearer to its end, where these items come next
abbrev pub GoesOn : List Item → Sizing → Sizing → Type 0
GoesOn items old new = (total_of new ≡ capped (old.total + bytes (whole [] items old.waiting.items))) × (steps_of new < steps items old.waiting.items)

abbrev pub Goes : Sizing → Sizing → Type 0
Goes old new = (total_of new ≡ total_of old) × (steps_of new < steps_of old)
