use Rattle.std.proofs.Common.{◌∙◌, ◌++◌, List, ℕ, ap, sym}
use Rattle.attribute_types.specs.Spacing.{words_in, collapsed, tailed}
use Rattle.attribute_types.proofs.Cuts.{collapsed-first}
use Rattle.attribute_types.proofs.spacing.collapse.Goals as goal

pub returns-in_ok-push_words-in-Some : goal.returns-in_ok-push_words-in-Some
returns-in_ok-push_words-in-Some c =
    let w = c.in-Some.word.now in
    let ws = words_in c.in-Some.rest.now in
    c.in_ok-push_words-in-Some.ensures ∙ (ap (λ (t : List ℕ). t ++ tailed ws) c.in_ok-out-in-Some.ensures
    ∙ (sym (collapsed-first c.as_slice.result.now w ws c.in-Some.ensures.0) ∙ ap (λ (t : List ℕ). collapsed t) c.as_slice.ensures))
