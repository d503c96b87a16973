use Rattle.article_tree.proofs.Taken.{GoneTo}
use Rattle.article_tree.proofs.taking.up_to.Given as goal

abbrev pub invariant-loop-at : goal.invariant-loop-at
invariant-loop-at l = GoneTo l.mark l.text l.at
