use Rattle.std.proofs.Common.{◌∙◌, sym}
use Rattle.attribute_types.specs.Spacing.{words_in}
use Rattle.attribute_types.proofs.Cuts.{goes_on_step}
use Rattle.attribute_types.proofs.spacing.goes_on.Goals as goal

pub loop-word-preserved : goal.loop-word-preserved
loop-word-preserved c =
    sym (goes_on_step (words_in c.loop-word.rest.now) (words_in c.in-Some.next.now) c.in-Some.word.now c.loop-word.left.now c.in-Some-after_space_and_word.after.now c.in-Some.ensures.0 c.in-Some-after_space_and_word.ensures) ∙ c.loop-word.invariant
