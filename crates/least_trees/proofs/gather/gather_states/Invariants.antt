use Rattle.std.proofs.Common.{◌≡◌, ◌+◌, ◌++◌, ◌≤◌}
use Rattle.least_trees.specs.Plans.{steps_within}
use Rattle.least_trees.specs.Spots.{rules_within}
use Rattle.least_trees.proofs.gather.gather_states.Given as goal

abbrev pub invariant-loop-state : goal.invariant-loop-state
invariant-loop-state g l = record {
  same : g.G.StepGraph.plan l.graph ≡ g.G.StepGraph.plan l.initial.graph;
  rules : l.rules.items ≡ l.initial.rules.items ++ rules_within (g.G.StepGraph.plan l.initial.graph) l.e l.state;
  looks : g.G.StepGraph.looks l.graph ≤ g.G.StepGraph.looks l.initial.graph + steps_within (g.G.StepGraph.plan l.initial.graph) l.e l.state + l.state;
  sums : g.G.StepGraph.sums l.graph ≡ g.G.StepGraph.sums l.initial.graph;
}
