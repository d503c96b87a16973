use Rattle.std.proofs.Common.{◌≡◌, ◌++◌, [], suc, length}
use Rattle.document_trees.specs.Trees.{nodes_in}
use Rattle.article_validator.specs.Listing.{kept_from}
use Rattle.article_validator.proofs.walk.put_nodes.Given as goal

abbrev pub invariant-loop-nodes : goal.invariant-loop-nodes
invariant-loop-nodes l = l.list ++ kept_from l.set l.all.keys (suc l.number) l.seen.keys l.nodes ≡ l.fn.list ++ kept_from l.set l.all.keys 1 [] (nodes_in l.fn.node)

abbrev pub decreases-loop-nodes : goal.decreases-loop-nodes
decreases-loop-nodes l = length l.nodes
