use Rattle.std.proofs.Common.{arith, ◌≡◌, ◌<◌, ◌+◌, length, map, slice_index, sym, ap, ◌∙◌, subst}
use Rattle.std.proofs.lemmas.List.{length-map}
use Rattle.least_trees.specs.Rows.{IsCut, AreRows, AreExact}
use Rattle.least_trees.specs.Spots.{base}
use Rattle.least_trees.proofs.Origins.{length-firsts, first_at, below-mono}
use Rattle.least_trees.proofs.Rowed.{rows_more, settled_rows}
use Rattle.least_trees.proofs.rows.rows_of.Goals as goal

pub first_at-first-requires : goal.first_at-first-requires
first_at-first-requires g c =
    let plan = g.G.StepGraph.plan c.args.graph.now in
    let n : length c.as_slice-firsts.result.now ≡ plan.count = ap length (c.as_slice-firsts.ensures.value ∙ c.requires.firsts_are) ∙ length-firsts plan plan.count in
    omega (arith, n, c.count-count.ensures)

pub cut_out-requires-clause-at : goal.cut_out-requires-clause-at
cut_out-requires-clause-at g c =
    let plan = g.G.StepGraph.plan c.args.graph.now in
    let s : length c.as_slice-values.result.now ≡ base plan plan.count =
    ap length c.as_slice-values.ensures.value ∙ sym (length-map c.args.spots.now.values.items g.G.Value.Worth.cost) ∙ c.requires.size in
    omega (arith, s, c.count-count.ensures)

pub cut_out-requires-clause-range : goal.cut_out-requires-clause-range
cut_out-requires-clause-range g c =
    let plan = g.G.StepGraph.plan c.args.graph.now in
    let s : length c.as_slice-values.result.now ≡ base plan plan.count =
    ap length c.as_slice-values.ensures.value ∙ sym (length-map c.args.spots.now.values.items g.G.Value.Worth.cost) ∙ c.requires.size in
    let lt : c.loop-e.e < plan.count = omega (arith, c.count-count.ensures) in
    let q : c.first_at-first.result ≡ base plan c.loop-e.e =
    c.first_at-first.ensures ∙ ap (λ z. slice_index z c.loop-e.e) (c.as_slice-firsts.ensures.value ∙ c.requires.firsts_are) ∙ first_at plan plan.count c.loop-e.e lt in
    omega (arith, s, q, below-mono plan c.loop-e.e plan.count lt, c.states-states.ensures)

pub loop-e-preserved : goal.loop-e-preserved
loop-e-preserved g c =
    let plan = g.G.StepGraph.plan c.args.graph.now in
    let e = c.loop-e.e in
    let values = c.as_slice-values.result.now in
    let row = c.in_ok-row.row in
    let lt : e < plan.count = omega (arith, c.count-count.ensures) in
    let q : c.first_at-first.result ≡ base plan e =
    c.first_at-first.ensures ∙ ap (λ z. slice_index z e) (c.as_slice-firsts.ensures.value ∙ c.requires.firsts_are) ∙ first_at plan plan.count e lt in
    let cut : IsCut values (plan.count + e) (base plan e) (plan.states e) row.m row.p =
    subst (λ z. IsCut values (z + e) (base plan e) (plan.states e) row.m row.p) c.count-count.ensures
    (subst (λ z. IsCut values (c.count-count.result + e) z (plan.states e) row.m row.p) q
    (subst (λ z. IsCut values (c.count-count.result + e) c.first_at-first.result z row.m row.p) c.states-states.ensures c.in_ok-row.ensures)) in
    subst (AreRows plan values (e + 1)) (sym c.in_ok-push.ensures.ok) (rows_more plan values e c.loop-e.rows row c.loop-e.invariant cut)

pub returns : goal.returns
returns g c =
    let plan = g.G.StepGraph.plan c.args.graph.now in
    let values = c.as_slice-values.result.now in
    let v = c.as_slice-values.ensures.value in
    let q : c.loop-e.e ≡ plan.count = omega (arith, c.count-count.ensures) in
    let A : AreExact plan (map g.G.Value.Worth.cost values) c.args.spots.now.firsts.items =
    subst (λ z. AreExact plan (map g.G.Value.Worth.cost z) c.args.spots.now.firsts.items) (sym v) c.requires in
    settled_rows plan g.G.Value.Worth.cost values c.loop-e.rows (sym (length-map values g.G.Value.Worth.cost) ∙ A.size)
    (subst (λ n. AreRows plan values n c.loop-e.rows) q c.loop-e.invariant) c.args.spots.now.firsts.items A
