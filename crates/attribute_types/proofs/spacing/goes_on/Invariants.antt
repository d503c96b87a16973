use Rattle.std.proofs.Common.{◌≡◌, length, bytes_eq}
use Rattle.attribute_types.specs.Spacing.{words_in, tailed}
use Rattle.attribute_types.proofs.spacing.goes_on.Given as goal

abbrev pub invariant-loop-word : goal.invariant-loop-word
invariant-loop-word l = bytes_eq (tailed (words_in l.rest)) l.left ≡ bytes_eq (tailed (words_in l.fn.value)) l.fn.text

abbrev pub decreases-loop-word : goal.decreases-loop-word
decreases-loop-word l = length l.rest
