use Rattle.std.proofs.Common.{arith, ◌≡◌, ◌+◌, ◌++◌, map, sym, ap, ◌∙◌, subst}
use Rattle.tree_costs.specs.declared.cost.Cost.TheVariants.{Fin, Inf}
use Rattle.least_trees.specs.Spots.{state_starts, start_of}
use Rattle.least_trees.proofs.Origins.{pushed, states_more}
use Rattle.least_trees.proofs.spots.push_states.Goals as goal

pub loop-state-preserved : goal.loop-state-preserved
loop-state-preserved g c =
    pushed g.G.Value.Worth.cost c.loop-state.values.items c.push.new.self.items c.start_value.result (map g.G.Value.Worth.cost c.args.values.now.items) (state_starts (g.G.StepGraph.plan c.args.graph.now) c.args.e c.loop-state.state) (start_of (g.G.StepGraph.plan c.args.graph.now) c.args.e c.loop-state.state)
    c.in_ok-push.ensures.items c.loop-state.invariant c.start_value.ensures
    ∙ ap (λ z. map g.G.Value.Worth.cost c.args.values.now.items ++ z) (sym (states_more (g.G.StepGraph.plan c.args.graph.now) c.args.e c.loop-state.state))
