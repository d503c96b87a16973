use Rattle.std.proofs.Common.{arith, ◌≡◌, ◌+◌, ◌++◌, map, sym, ap, ◌∙◌, subst}
use Rattle.tree_costs.specs.declared.cost.Cost.TheVariants.{Fin, Inf}
use Rattle.least_trees.specs.Spots.{top_starts}
use Rattle.least_trees.proofs.Origins.{pushed, tops_more}
use Rattle.least_trees.proofs.spots.push_tops.Goals as goal

pub loop-e-preserved : goal.loop-e-preserved
loop-e-preserved g c =
    pushed g.G.Value.Worth.cost c.loop-e.values.items c.push.new.self.items c.inf.result (map g.G.Value.Worth.cost c.args.values.now.items) (top_starts c.loop-e.e) Inf
    c.in_ok-push.ensures.items c.loop-e.invariant c.inf.ensures
    ∙ ap (λ z. map g.G.Value.Worth.cost c.args.values.now.items ++ z) (sym (tops_more c.loop-e.e))
