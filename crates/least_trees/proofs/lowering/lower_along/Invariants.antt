use Rattle.std.proofs.Common.{◌≡◌, ◌<◌, ◌≤◌, ◌+◌, ◌-◌, ℕ, length, map}
use Rattle.least_trees.specs.Board.{IsWhole}
use Rattle.least_trees.specs.Uses.{read, visited}
use Rattle.least_trees.specs.Rules.{AllIn, applied, lower_all}
use Rattle.least_trees.proofs.lowering.lower_along.Given as goal

abbrev pub invariant-loop-at : goal.invariant-loop-at
invariant-loop-at g l = record {
  length_same : length l.values ≡ length l.initial.values;
  range : AllIn (length l.values) (read l.fn.part l.x l.uses.list.items l.at (l.end - l.at));
  value : lower_all (g.G.StepGraph.plan l.initial.graph).numbers.cap l.done l.x (read l.fn.part l.x l.uses.list.items l.at (l.end - l.at)) (map g.G.Value.Worth.cost l.values)
      ≡ lower_all (g.G.StepGraph.plan l.initial.graph).numbers.cap l.done l.x (visited l.fn.part l.rules l.x (length l.rules)) (map g.G.Value.Worth.cost l.initial.values);
  board : IsWhole l.done (map g.G.Value.Worth.cost l.values) l.winners;
  same : g.G.StepGraph.plan l.graph ≡ g.G.StepGraph.plan l.initial.graph;
  looks : g.G.StepGraph.looks l.graph ≡ g.G.StepGraph.looks l.initial.graph;
  sums : g.G.StepGraph.sums l.graph + applied l.done l.x (read l.fn.part l.x l.uses.list.items l.at (l.end - l.at))
      ≡ g.G.StepGraph.sums l.initial.graph + applied l.done l.x (visited l.fn.part l.rules l.x (length l.rules));
}

abbrev pub decreases-loop-at : goal.decreases-loop-at
decreases-loop-at g l = l.end - l.at
