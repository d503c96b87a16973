use Rattle.least_trees.proofs.Origins.{both_grown}
use Rattle.least_trees.proofs.spots.lay_out.Goals as goal

pub push_elements-requires : goal.push_elements-requires
push_elements-requires g c =
    both_grown g.G.Value.Worth.cost c.new-values.result.items c.push_weights.new.values.items c.push_tops.new.values.items (g.G.StepGraph.plan c.args.graph.now)
    (g.G.StepGraph.plan c.args.graph.now).count c.new-values.ensures.items c.in_ok-push_weights.ensures c.in_ok-push_tops.ensures
