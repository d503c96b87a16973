use Rattle.std.proofs.Common.{◌≡◌, ◌+◌, ◌-◌, ◌^◌, ◌≤◌, min, length}
use Rattle.document_trees.specs.Trees.{size}
use Rattle.document_trees.proofs.walk.elements.Given as goal

abbrev pub invariant-loop-nodes : goal.invariant-loop-nodes
invariant-loop-nodes l = (l.count ≤ 2 ^ 64 - 1) × (min (l.count + length l.nodes) (2 ^ 64 - 1) ≡ min (size l.node) (2 ^ 64 - 1))

abbrev pub decreases-loop-nodes : goal.decreases-loop-nodes
decreases-loop-nodes l = length l.nodes
