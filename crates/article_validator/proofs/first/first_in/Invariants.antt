use Rattle.std.proofs.Common.{◌≡◌, length}
use Rattle.document_trees.specs.Trees.{nodes_in}
use Rattle.attlist_merge.specs.Oddness.{first_some}
use Rattle.article_validator.specs.First.{broken_in}
use Rattle.article_validator.proofs.first.first_in.Given as goal

abbrev pub invariant-loop-nodes : goal.invariant-loop-nodes
invariant-loop-nodes l = first_some (broken_in l.set) l.nodes ≡ first_some (broken_in l.set) (nodes_in l.fn.node)

abbrev pub decreases-loop-nodes : goal.decreases-loop-nodes
decreases-loop-nodes l = length l.nodes
