use Rattle.std.proofs.Common.{◌≡◌, ◌++◌, map}
use Rattle.least_trees.specs.Spots.{weight_starts}
use Rattle.least_trees.proofs.spots.push_weights.Given as goal

abbrev pub invariant-loop-e : goal.invariant-loop-e
invariant-loop-e g l = map g.G.Value.Worth.cost l.values.items ≡ map g.G.Value.Worth.cost l.initial.values.items ++ weight_starts (g.G.StepGraph.plan l.graph) l.e
