use Rattle.std.proofs.Common.{◌≡◌, ◌++◌, map, length}
use Rattle.least_trees.specs.Spots.{base, element_starts, first_spots}
use Rattle.least_trees.proofs.spots.push_elements.Given as goal

abbrev pub invariant-loop-e : goal.invariant-loop-e
invariant-loop-e g l = record {
  size : length l.values.items ≡ base (g.G.StepGraph.plan l.graph) l.e;
  values : map g.G.Value.Worth.cost l.values.items ≡ map g.G.Value.Worth.cost l.initial.values.items ++ element_starts (g.G.StepGraph.plan l.graph) l.e;
  firsts : l.bases.items ≡ l.initial.bases.items ++ first_spots (g.G.StepGraph.plan l.graph) l.e;
}
