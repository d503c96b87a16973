use Rattle.article_validator.proofs.FillingSteps.{step_keeps, step_falls}
use Rattle.article_validator.proofs.filling.fill_all.Goals as goal

pub loop-more-preserved : goal.loop-more-preserved
loop-more-preserved c =
    step_keeps c.args.set.now c.loop-more.work c.step.new.work _ c.in_ok-more.more c.in_ok-more.ensures.goes c.in_ok-more.ensures.all (rw c.loop-more-test.true at c.loop-more.invariant).0

pub loop-more-smaller : goal.loop-more-smaller
loop-more-smaller c = rw c.loop-more-test.true (step_falls c.args.set.now c.loop-more.work c.step.new.work c.in_ok-more.more c.in_ok-more.ensures.goes)
