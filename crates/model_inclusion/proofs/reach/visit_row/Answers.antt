use Rattle.std.proofs.Common.{◌<◌, ◌+◌, ◌*◌, get_or, length, sym, rules}
use Rattle.model_inclusion.proofs.Filling.{within_seen}
use Rattle.model_inclusion.proofs.reach.visit_row.Goals as goal

pub mark-requires : goal.mark-requires
mark-requires c =
    within_seen c.args.row.now c.args.steps.now c.args.width c.loop-number.number-index c.in-Some.other _ _ c.requires c.loop-number-test.true (sym c.in-Some.ensures) c.loop-number.invariant.length_same

pub overflow_add-next : goal.overflow_add-next
overflow_add-next c =
    let h = within_seen c.args.row.now c.args.steps.now c.args.width c.loop-number.number-index c.in-Some.other _ c.loop-number.seen.items c.requires c.loop-number-test.true (sym c.in-Some.ensures) c.loop-number.invariant.length_same in
    let l : (get_or c.args.row.now c.loop-number.number-index (0, 0)).1 * c.args.width + c.in-Some.other < length c.loop-number.seen.items = h in
    search rules

pub overflow_mul-next : goal.overflow_mul-next
overflow_mul-next c =
    let h = within_seen c.args.row.now c.args.steps.now c.args.width c.loop-number.number-index c.in-Some.other _ c.loop-number.seen.items c.requires c.loop-number-test.true (sym c.in-Some.ensures) c.loop-number.invariant.length_same in
    let l : (get_or c.args.row.now c.loop-number.number-index (0, 0)).1 * c.args.width + c.in-Some.other < length c.loop-number.seen.items = h in
    search rules
