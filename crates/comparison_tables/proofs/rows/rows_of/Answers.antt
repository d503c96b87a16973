use Rattle.std.proofs.Common.{◌≡◌, ◌+◌, length, slice_get, arith, sym, ap, ◌∙◌, subst, refl}
use Rattle.std.proofs.lemmas.Option.{slice_get_read}
use Rattle.comparison_tables.specs.Rows.{AreRows}
use Rattle.comparison_tables.proofs.Knowing.{as_many}
use Rattle.comparison_tables.proofs.Growing.{sides_few, row_is, rows_more}
use Rattle.comparison_tables.proofs.rows.rows_of.Goals as goal

pub bounds-settled-place : goal.bounds-settled-place
bounds-settled-place c =
    let many = as_many c.args.first.now c.args.second.now c.args.first.now.elements c.args.sides.now c.requires.sides in
    let same = ap length c.as_slice-side-items.ensures in
    omega (arith, many, same, c.loop-place-test.true, c.requires.settled)

pub bounds-settled-count : goal.bounds-settled-count
bounds-settled-count c =
    let many = as_many c.args.first.now c.args.second.now c.args.first.now.elements c.args.sides.now c.requires.sides in
    let same = ap length c.as_slice-side-items.ensures in
    omega (arith, many, same, c.loop-place-test.true, c.requires.settled, c.count-count.ensures.value)

pub row_from-requires-clause-pairs : goal.row_from-requires-clause-pairs
row_from-requires-clause-pairs c =
    let at = slice_get_read c.as_slice-side-items.result.now (length c.as_slice-side-items.result.now) c.loop-place.place c.side-item.result refl c.loop-place-test.true c.side-item.is in
    sides_few c.args.first.now c.args.second.now c.args.first.now.elements c.args.sides.now c.loop-place.place c.side-item.result c.requires.sides
    (sym (ap (λ z. slice_get z c.loop-place.place) c.as_slice-side-items.ensures) ∙ at)

pub loop-place-preserved : goal.loop-place-preserved
loop-place-preserved c =
    let many = as_many c.args.first.now c.args.second.now c.args.first.now.elements c.args.sides.now c.requires.sides in
    let same = ap length c.as_slice-side-items.ensures in
    let first = c.args.first.now in
    let x = c.loop-place.place in
    let at = slice_get_read c.as_slice-side-items.result.now (length c.as_slice-side-items.result.now) x c.side-item.result refl c.loop-place-test.true c.side-item.is in
    let side = sym (ap (λ z. slice_get z x) c.as_slice-side-items.ensures) ∙ at in
    let own = slice_get_read c.args.settled.now (length c.args.settled.now) x c.index-settled-place.result refl
    (omega (arith, many, same, c.loop-place-test.true, c.requires.settled)) c.index-settled-place.is in
    let copy = slice_get_read c.args.settled.now (length c.args.settled.now) (c.count-count.result + x) c.index-settled-count.result refl
    (omega (arith, many, same, c.loop-place-test.true, c.requires.settled, c.count-count.ensures.value)) c.index-settled-count.is in
    subst (AreRows first c.args.second.now c.args.sides.now c.args.settled.now (x + 1)) (sym c.in_ok-push.ensures.ok)
    (rows_more first c.args.second.now c.args.sides.now c.args.settled.now c.count-count.ensures.kept c.requires.sides x c.loop-place.rows c.in_ok-row.row c.loop-place.invariant
    (row_is first c.args.second.now c.args.sides.now c.args.settled.now c.count-count.ensures.kept c.requires.sides x c.count-count.result c.states_at-states.result
    c.side-item.result c.index-settled-place.result c.index-settled-count.result c.in_ok-row.row side own copy c.count-count.ensures.value c.states_at-states.ensures.value
    c.in_ok-row.ensures))

pub returns : goal.returns
returns c =
    let many = as_many c.args.first.now c.args.second.now c.args.first.now.elements c.args.sides.now c.requires.sides in
    let same = ap length c.as_slice-side-items.ensures in
    let end : c.loop-place.place ≡ length c.args.first.now.elements = omega (arith, many, same, c.loop-place-test.false, c.loop-place.auto.place-end) in
    subst (λ n. AreRows c.args.first.now c.args.second.now c.args.sides.now c.args.settled.now n c.loop-place.rows) end c.loop-place.invariant
