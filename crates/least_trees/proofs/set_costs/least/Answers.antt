use Rattle.std.proofs.Common.{arith, ◌≡◌, ◌<◌, ◌+◌, map, sym, ap, ◌∙◌, subst}
use Rattle.tree_costs.specs.Leasts.{IsExact}
use Rattle.tree_costs.specs.declared.cost.Cost.{Cost}
use Rattle.least_trees.specs.Plans.{steps_in, states_in}
use Rattle.least_trees.specs.Rows.{IsSettled}
use Rattle.least_trees.specs.SetPlans.{plan_of}
use Rattle.least_trees.specs.SetRows.{least_row}
use Rattle.least_trees.proofs.SetRowed.{few-looks, few-sums, table}
use Rattle.least_trees.proofs.set_costs.least.Goals as goal

pub least_counted-requires-clause-looks : goal.least_counted-requires-clause-looks
least_counted-requires-clause-looks c =
    let a = ap steps_in c.new-graph.ensures.plan in
    let b = ap states_in c.new-graph.ensures.plan in
    omega (arith, a, b, few-looks c.args.set.now c.args.cap c.count.ensures.kept, c.new-graph.ensures.looks)

pub least_counted-requires-clause-sums : goal.least_counted-requires-clause-sums
least_counted-requires-clause-sums c =
    let a = ap steps_in c.new-graph.ensures.plan in
    let b = ap (λ p. p.count) c.new-graph.ensures.plan in
    omega (arith, a, b, few-sums c.args.set.now c.args.cap c.count.ensures.kept, c.new-graph.ensures.sums)

pub returns-clause-exact : goal.returns-clause-exact
returns-clause-exact c =
    let S : IsSettled (plan_of c.args.set.now c.args.cap) (λ (x : Cost). x) c.in_ok-settled.settled.rows =
    subst (λ p. IsSettled p (λ (x : Cost). x) c.in_ok-settled.settled.rows) c.new-graph.ensures.plan c.in_ok-settled.ensures.exact in
    subst (λ z. IsExact c.args.set.now (record { cap = c.args.cap; rows = z }))
    (sym (c.in_ok-rows.ensures ∙ ap (map least_row) c.as_slice.ensures)) (table c.args.set.now c.args.cap c.count.ensures.kept c.in_ok-settled.settled.rows S)
