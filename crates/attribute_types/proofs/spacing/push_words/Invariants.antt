use Rattle.std.proofs.Common.{◌≡◌, ◌++◌, length}
use Rattle.attribute_types.specs.Spacing.{words_in, tailed}
use Rattle.attribute_types.proofs.spacing.push_words.Given as goal

abbrev pub invariant-loop-word : goal.invariant-loop-word
invariant-loop-word l = l.out ++ tailed (words_in l.rest) ≡ l.fn.out ++ tailed (words_in l.fn.value)

abbrev pub decreases-loop-word : goal.decreases-loop-word
decreases-loop-word l = length l.rest
