use Rattle.decl_set.specs.ValueFrames.{left_of}
use Rattle.decl_set.proofs.ValueWorks.{begins, goes_on_keeps, goes_on_smaller}
use Rattle.decl_set.proofs.values.expanded_value.Goals as goal

pub loop-more-init : goal.loop-more-init
unfolding left_of
loop-more-init c = (rw (c.new.ensures, c.new-2.ensures.items, c.as_slice.ensures) (begins c.args.entities.now.entries c.args.chain.now c.args.budget.now.spent c.args.raw.now), tt)

pub loop-more-preserved : goal.loop-more-preserved
loop-more-preserved c =
    goes_on_keeps c.args.entities.now.entries c.args.chain.now c.loop-more.work c.go_on-more.new.work _ c.go_on-more.result (c.go_on-more.ensures c.args.entities.now.entries c.args.chain.now) (rw c.loop-more-test.true at c.loop-more.invariant).0

pub loop-more-smaller : goal.loop-more-smaller
loop-more-smaller c = rw c.loop-more-test.true (goes_on_smaller c.args.entities.now.entries c.args.chain.now c.loop-more.work c.go_on-more.new.work c.go_on-more.result (c.go_on-more.ensures c.args.entities.now.entries c.args.chain.now))
