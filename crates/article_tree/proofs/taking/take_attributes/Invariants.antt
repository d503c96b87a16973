use Rattle.std.proofs.Common.{length, map}
use Rattle.article_tree.specs.Taken.{raw_of}
use Rattle.article_tree.proofs.Taken.{ReadTo}
use Rattle.article_tree.proofs.taking.take_attributes.Given as goal

abbrev pub invariant-loop-closed : goal.invariant-loop-closed
invariant-loop-closed l = ReadTo l.text (map raw_of l.atts.items) l.rest

abbrev pub decreases-loop-closed : goal.decreases-loop-closed
decreases-loop-closed l = length l.rest
