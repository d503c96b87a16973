use Rattle.std.proofs.Common.{◌≡◌, length}
use Rattle.document_trees.specs.Trees.{elements_alone}
use Rattle.document_trees.specs.Seen.{items_of}
use Rattle.article_validator.proofs.content.stand_alone.Given as goal

abbrev pub invariant-loop-item : goal.invariant-loop-item
invariant-loop-item l = elements_alone (items_of l.rest) ≡ elements_alone (items_of l.items)

abbrev pub decreases-loop-item : goal.decreases-loop-item
decreases-loop-item l = length l.rest
