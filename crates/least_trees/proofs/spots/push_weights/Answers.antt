use Rattle.std.proofs.Common.{arith, ◌≡◌, ◌+◌, ◌++◌, map, sym, ap, ◌∙◌, subst}
use Rattle.tree_costs.specs.declared.cost.Cost.TheVariants.{Fin, Inf}
use Rattle.least_trees.specs.Spots.{weight_starts}
use Rattle.least_trees.proofs.Origins.{pushed, weights_more}
use Rattle.least_trees.proofs.spots.push_weights.Goals as goal

pub loop-e-preserved : goal.loop-e-preserved
loop-e-preserved g c =
    pushed g.G.Value.Worth.cost c.loop-e.values.items c.push.new.self.items c.weight.result (map g.G.Value.Worth.cost c.args.values.now.items) (weight_starts (g.G.StepGraph.plan c.args.graph.now) c.loop-e.e) (Fin ((g.G.StepGraph.plan c.args.graph.now).numbers.weight c.loop-e.e))
    c.in_ok-push.ensures.items c.loop-e.invariant c.weight.ensures
    ∙ ap (λ z. map g.G.Value.Worth.cost c.args.values.now.items ++ z) (sym (weights_more (g.G.StepGraph.plan c.args.graph.now) c.loop-e.e))
