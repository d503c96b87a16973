use Rattle.std.proofs.Common.{◌≡◌, length}
use Rattle.document_trees.specs.Trees.{runs_plain}
use Rattle.document_trees.specs.Seen.{items_of}
use Rattle.article_validator.proofs.content.are_plain.Given as goal

abbrev pub invariant-loop-item : goal.invariant-loop-item
invariant-loop-item l = runs_plain (items_of l.rest) ≡ runs_plain (items_of l.items)

abbrev pub decreases-loop-item : goal.decreases-loop-item
decreases-loop-item l = length l.rest
