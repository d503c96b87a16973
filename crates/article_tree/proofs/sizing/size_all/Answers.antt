use Rattle.article_tree.proofs.Sized.{keeps_on, falls_on}
use Rattle.article_tree.proofs.sizing.size_all.Goals as goal

pub loop-more-preserved : goal.loop-more-preserved
loop-more-preserved c =
    keeps_on c.loop-more.work c.step.new.work _ c.in_ok-more.more c.in_ok-more.ensures.goes c.in_ok-more.ensures.all (rw c.loop-more-test.true at c.loop-more.invariant).0

pub loop-more-smaller : goal.loop-more-smaller
loop-more-smaller c = rw c.loop-more-test.true (falls_on c.loop-more.work c.step.new.work c.in_ok-more.more c.in_ok-more.ensures.goes)
