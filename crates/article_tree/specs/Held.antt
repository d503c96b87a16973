-- What was read so far, as a program holds it.
use Rattle.std.specs.Prelude.{List, [], ◌∷◌, Option, Some, None}
use Rattle.document_trees.specs.Trees.{Items}
use Rattle.document_trees.specs.Trees as tree
use Rattle.document_trees.specs.Seen.{items_of}
use Rattle.document_trees.specs.declared.nodes.Item.{Item}
use Rattle.document_trees.specs.declared.nodes.Item.TheVariants.{Element, Chars, Comment, Pi}
use Rattle.article_tree.specs.Content.{joined}
use Rattle.article_tree.specs.Reading.{Open, State}
use Rattle.article_tree.specs.declared.held.Run.{Run}
use Rattle.article_tree.specs.declared.held.OpenElement.{OpenElement}
use Rattle.article_tree.specs.declared.held.Held.{Held}

-- the run under way
abbrev pub run_items : Option Run → Items
run_items None = tree.nothing
run_items (Some run) = tree.chars run.text run.plain tree.nothing

-- the items, with the run behind them
abbrev pub held_items : List Item → Option Run → Items
held_items items run = joined (items_of items) (run_items run)

abbrev pub open_of : OpenElement → Open
open_of o = record { name = o.name; atts = o.atts; before = items_of o.before.items }

-- these elements inside others, the innermost first
abbrev pub stacked : List OpenElement → List Open → List Open
stacked [] opens = opens
stacked (o ∷ os) opens = stacked os (open_of o ∷ opens)

abbrev pub state_of : Held → State
state_of h = record { opens = stacked h.opens.items []; items = held_items h.items.items h.run; spent = h.spent }

-- an item that is no run
abbrev pub IsOther : Item → Type 0
IsOther (Element node) = Unit {0}
IsOther (Chars text plain) = ⊥
IsOther (Comment text) = Unit {0}
IsOther (Pi target body) = Unit {0}

-- the last item is no run
abbrev pub EndsApart : List Item → Type 0
EndsApart [] = Unit {0}
EndsApart (item ∷ []) = IsOther item
EndsApart (item ∷ next ∷ items) = EndsApart (next ∷ items)
