use Rattle.std.proofs.Common.{◌≡◌, length}
use Rattle.attlist_merge.specs.Grammar.{is_value}
use Rattle.article_tree.proofs.fronts.is_value.Given as goal

abbrev pub invariant-loop-c : goal.invariant-loop-c
invariant-loop-c l = is_value l.rest ≡ is_value l.text

abbrev pub decreases-loop-c : goal.decreases-loop-c
decreases-loop-c l = length l.rest
