use Rattle.std.proofs.Common.{◌≡◌, ◌+◌, cond}
use Rattle.std.specs.Bool.{OnTrue, OnFalse}
use Rattle.article_tree.specs.Sizes.{total_of, steps_of}
use Rattle.article_tree.proofs.sizing.size_all.Given as goal

abbrev pub invariant-loop-more : goal.invariant-loop-more
invariant-loop-more l = OnTrue l.more (total_of l.work ≡ total_of l.fn.work) × OnFalse l.more (l.work.total ≡ total_of l.fn.work)

abbrev pub decreases-loop-more : goal.decreases-loop-more
decreases-loop-more l = cond l.more (steps_of l.work + 1) 0
