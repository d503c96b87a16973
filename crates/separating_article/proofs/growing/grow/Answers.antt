use Rattle.separating_article.proofs.Stepped.{loops_on, loops_fall, loops_over}
use Rattle.separating_article.proofs.growing.grow.Goals as goal

pub returns-in-Err : goal.returns-in-Err
returns-in-Err c =
    loops_over c.args.guide.now c.in-Err.over c.args.work.now c.loop-more.work c.step.new.work c.step.new.work c.in-Err.ensures (rw c.loop-more-test.true at c.loop-more.invariant)

pub loop-more-preserved : goal.loop-more-preserved
loop-more-preserved c =
    loops_on c.args.guide.now c.in-Ok.goes_on c.args.work.now c.loop-more.work c.step.new.work c.in-Ok.ensures (rw c.loop-more-test.true at c.loop-more.invariant)

pub loop-more-smaller : goal.loop-more-smaller
loop-more-smaller c =
    rw c.loop-more-test.true
    (loops_fall c.args.guide.now c.in-Ok.goes_on c.args.work.now c.loop-more.work c.step.new.work c.in-Ok.ensures (rw c.loop-more-test.true at c.loop-more.invariant))
