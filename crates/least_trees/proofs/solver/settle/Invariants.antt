use Rattle.std.proofs.Common.{◌≡◌, ◌+◌, ◌≤◌, length, map}
use Rattle.least_trees.specs.Board.{IsWhole}
use Rattle.least_trees.specs.Solving.{Kept, pending, open_in}
use Rattle.least_trees.proofs.solver.settle.Given as goal

abbrev pub invariant-loop-x : goal.invariant-loop-x
invariant-loop-x g l = record {
  lengths : length l.done ≡ length l.values;
  kept_length : length l.values ≡ length l.initial.values;
  kept : Kept (g.G.StepGraph.plan l.initial.graph).numbers.cap l.rules (map g.G.Value.Worth.cost l.initial.values) l.done (map g.G.Value.Worth.cost l.values);
  board : IsWhole l.done (map g.G.Value.Worth.cost l.values) l.winners;
  same : g.G.StepGraph.plan l.graph ≡ g.G.StepGraph.plan l.initial.graph;
  looks : g.G.StepGraph.looks l.graph ≡ g.G.StepGraph.looks l.initial.graph;
  sums : g.G.StepGraph.sums l.graph + pending l.done l.rules ≤ g.G.StepGraph.sums l.initial.graph + length l.rules;
}

abbrev pub decreases-loop-x : goal.decreases-loop-x
decreases-loop-x g l = open_in l.done
