use Rattle.std.proofs.Common.{◌≡◌, length}
use Rattle.document_trees.specs.Walks.{left_in}
use Rattle.document_trees.proofs.walk.last_element.Given as goal

abbrev pub invariant-loop-items : goal.invariant-loop-items
invariant-loop-items l = left_in l.fn.lists.items ≡ left_in l.lists.items

abbrev pub decreases-loop-items : goal.decreases-loop-items
decreases-loop-items l = length l.lists.items
