use Rattle.dtd_flattener.proofs.Sized.{size_zero, size_next}
use Rattle.dtd_flattener.proofs.sizes.utf8_len.Goals as goal

pub loop-c-init : goal.loop-c-init
loop-c-init c = size_zero

pub loop-c-preserved : goal.loop-c-preserved
loop-c-preserved c =
    size_next c.args.text.now c.loop-c.c-index c.c-item.result c.loop-c.total c.len_utf8.result c.saturating_add-total.result
    c.loop-c-test.true c.c-item.is c.len_utf8.ensures.len c.len_utf8.ensures.upper_bound c.loop-c.invariant c.saturating_add-total.ensures
