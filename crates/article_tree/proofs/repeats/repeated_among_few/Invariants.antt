use Rattle.article_tree.proofs.Valued.{FewTo}
use Rattle.article_tree.proofs.repeats.repeated_among_few.Given as goal

abbrev pub invariant-loop-k : goal.invariant-loop-k
invariant-loop-k l = FewTo l.atts l.k
