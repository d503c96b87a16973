use Rattle.std.proofs.Common.{length}
use Rattle.article_tree.proofs.Valued.{SeenTo}
use Rattle.article_tree.proofs.repeats.repeated_among.Given as goal

abbrev pub invariant-loop-att : goal.invariant-loop-att
invariant-loop-att l = SeenTo l.atts l.seen.keys l.rest

abbrev pub decreases-loop-att : goal.decreases-loop-att
decreases-loop-att l = length l.rest
