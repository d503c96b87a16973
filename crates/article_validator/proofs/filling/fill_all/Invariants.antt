use Rattle.std.proofs.Common.{◌≡◌, ◌+◌, cond}
use Rattle.std.specs.Bool.{OnTrue, OnFalse}
use Rattle.article_validator.specs.FillingSteps.{whole_of, steps_of}
use Rattle.article_validator.proofs.filling.fill_all.Given as goal

abbrev pub invariant-loop-more : goal.invariant-loop-more
invariant-loop-more l = OnTrue l.more (whole_of l.set l.work ≡ whole_of l.set l.fn.work) × OnFalse l.more (l.work.node ≡ whole_of l.set l.fn.work)

abbrev pub decreases-loop-more : goal.decreases-loop-more
decreases-loop-more l = cond l.more (steps_of l.work + 1) 0
