use Rattle.std.proofs.Common.{List, length, arith, sym, ap, ◌∙◌, subst}
use Rattle.tree_costs.specs.declared.cost.Cost.{Cost}
use Rattle.least_trees.specs.Plans.{steps_in, states_in}
use Rattle.least_trees.specs.Rows.{IsSettled}
use Rattle.least_trees.specs.declared.settled.SettledRow.{SettledRow}
use Rattle.comparison_tables.specs.Outcome.{HaveExactCosts}
use Rattle.comparison_tables.specs.Plans.{plan_of}
use Rattle.comparison_tables.specs.Rows.{AreRows}
use Rattle.comparison_tables.proofs.Outcomes.{if_more}
use Rattle.comparison_tables.proofs.Sized.{few-looks, few-sums}
use Rattle.comparison_tables.proofs.Tabled.{have_exact_costs}
use Rattle.comparison_tables.proofs.tables.solved_rows.Goals as goal

pub least_counted-requires-clause-looks : goal.least_counted-requires-clause-looks
least_counted-requires-clause-looks c =
    let a = ap steps_in c.in_ok-graph.ensures.plan in
    let b = ap states_in c.in_ok-graph.ensures.plan in
    omega (arith, a, b, few-looks c.args.first.now c.args.second.now c.args.sides.now c.args.cap c.count.ensures.kept c.requires.sides, c.in_ok-graph.ensures.looks)

pub least_counted-requires-clause-sums : goal.least_counted-requires-clause-sums
least_counted-requires-clause-sums c =
    let a = ap steps_in c.in_ok-graph.ensures.plan in
    let b = ap (λ p. p.count) c.in_ok-graph.ensures.plan in
    omega (arith, a, b, few-sums c.args.first.now c.args.second.now c.args.sides.now c.args.cap c.count.ensures.kept c.requires.sides, c.in_ok-graph.ensures.sums)

pub rows_of-requires-clause-settled : goal.rows_of-requires-clause-settled
rows_of-requires-clause-settled c =
    let S : IsSettled (plan_of c.args.first.now c.args.second.now c.args.sides.now c.args.cap) (λ (x : Cost). x) c.in_ok-settled.settled.rows =
    subst (λ p. IsSettled p (λ (x : Cost). x) c.in_ok-settled.settled.rows) c.in_ok-graph.ensures.plan c.in_ok-settled.ensures.exact in
    ap length c.as_slice.ensures ∙ S.count

pub returns : goal.returns
returns c =
    let first = c.args.first.now in
    let second = c.args.second.now in
    let sides = c.args.sides.now in
    let S : IsSettled (plan_of first second sides c.args.cap) (λ (x : Cost). x) c.in_ok-settled.settled.rows =
    subst (λ p. IsSettled p (λ (x : Cost). x) c.in_ok-settled.settled.rows) c.in_ok-graph.ensures.plan c.in_ok-settled.ensures.exact in
    let T : IsSettled (plan_of first second sides c.args.cap) (λ (x : Cost). x) c.as_slice.result.now =
    subst (λ (z : List (SettledRow Cost)). IsSettled (plan_of first second sides c.args.cap) (λ (x : Cost). x) z) (sym c.as_slice.ensures) S in
    if_more (AreRows first second sides c.as_slice.result.now (length first.elements)) (HaveExactCosts first second c.args.cap)
    (λ rows R. have_exact_costs first second sides c.args.cap c.count.ensures.kept c.count-2.ensures.kept c.requires.sides c.requires.cap c.as_slice.result.now T rows R)
    c.rows_of.result c.rows_of.ensures
