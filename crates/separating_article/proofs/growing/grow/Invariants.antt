use Rattle.separating_article.proofs.Stepped.{Loops, left_of}
use Rattle.separating_article.proofs.growing.grow.Given as goal

abbrev pub invariant-loop-more : goal.invariant-loop-more
invariant-loop-more l = Loops l.guide l.more l.fn.work l.work

abbrev pub decreases-loop-more : goal.decreases-loop-more
decreases-loop-more l = left_of l.guide l.more l.work
