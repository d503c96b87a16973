use Rattle.std.proofs.Common.{◌≡◌, ◌+◌, ◌-◌, ◌++◌, ◌≤◌, length, take}
use Rattle.least_trees.specs.Spots.{rules_of_steps}
use Rattle.least_trees.proofs.gather.gather_steps.Given as goal

abbrev pub invariant-loop-inner : goal.invariant-loop-inner
invariant-loop-inner g l = record {
  same : g.G.StepGraph.plan l.graph ≡ g.G.StepGraph.plan l.initial.graph;
  within : l.k ≤ length ((g.G.StepGraph.plan l.initial.graph).numbers.steps l.e l.state);
  rules : l.rules.items ≡ l.initial.rules.items ++ rules_of_steps l.count l.first l.state (take l.k ((g.G.StepGraph.plan l.initial.graph).numbers.steps l.e l.state));
  looks : g.G.StepGraph.looks l.graph ≡ g.G.StepGraph.looks l.initial.graph + l.k;
  sums : g.G.StepGraph.sums l.graph ≡ g.G.StepGraph.sums l.initial.graph;
}

abbrev pub decreases-loop-inner : goal.decreases-loop-inner
decreases-loop-inner g l = length ((g.G.StepGraph.plan l.initial.graph).numbers.steps l.e l.state) - l.k
