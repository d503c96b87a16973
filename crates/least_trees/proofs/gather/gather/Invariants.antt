use Rattle.std.proofs.Common.{◌≡◌, ◌+◌, ◌≤◌}
use Rattle.least_trees.specs.Plans.{steps_below, states_below}
use Rattle.least_trees.specs.Spots.{rules_below}
use Rattle.least_trees.proofs.gather.gather.Given as goal

abbrev pub invariant-loop-e : goal.invariant-loop-e
invariant-loop-e g l = record {
  same : g.G.StepGraph.plan l.graph ≡ g.G.StepGraph.plan l.initial.graph;
  rules : l.rules.items ≡ rules_below (g.G.StepGraph.plan l.initial.graph) l.e;
  looks : g.G.StepGraph.looks l.graph ≤ g.G.StepGraph.looks l.initial.graph + steps_below (g.G.StepGraph.plan l.initial.graph) l.e + states_below (g.G.StepGraph.plan l.initial.graph) l.e;
  sums : g.G.StepGraph.sums l.graph ≡ g.G.StepGraph.sums l.initial.graph;
}
