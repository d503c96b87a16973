use Rattle.dtd_flattener.proofs.Sized.{size_zero, element_sizes, elements_end}
use Rattle.dtd_flattener.proofs.sizes.elements_size.Goals as goal

pub loop-at-preserved : goal.loop-at-preserved
loop-at-preserved c =
    element_sizes c.args.set.now c.loop-at.at c.in-Some.name.now c.loop-at.total c.in_ok-more-in-Some.more c.saturating_add-total.result
    c.count-at-end.ensures.kept c.in-Some.ensures c.loop-at.invariant c.in_ok-more-in-Some.ensures c.saturating_add-total.ensures

pub loop-at-init : goal.loop-at-init
loop-at-init c = size_zero

pub returns-in-None : goal.returns-in-None
returns-in-None c = elements_end c.args.set.now c.loop-at.at c.loop-at.total c.in-None.ensures c.loop-at.invariant
