use Rattle.std.proofs.Common.{◌≡◌, ◌++◌, map}
use Rattle.least_trees.specs.Spots.{state_starts}
use Rattle.least_trees.proofs.spots.push_states.Given as goal

abbrev pub invariant-loop-state : goal.invariant-loop-state
invariant-loop-state g l = map g.G.Value.Worth.cost l.values.items ≡ map g.G.Value.Worth.cost l.initial.values.items ++ state_starts (g.G.StepGraph.plan l.graph) l.fn.e l.state
