use Rattle.std.proofs.Common.{◌≡◌, length}
use Rattle.document_trees.specs.Trees.{nodes_below}
use Rattle.document_trees.specs.Seen.{items_of}
use Rattle.document_trees.proofs.walk.first_element.Given as goal

abbrev pub invariant-loop-item : goal.invariant-loop-item
invariant-loop-item l = nodes_below (items_of l.items) ≡ nodes_below (items_of l.rest)

abbrev pub decreases-loop-item : goal.decreases-loop-item
decreases-loop-item l = length l.rest
