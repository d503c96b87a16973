use Rattle.std.proofs.Common.{◌∙◌, ◌++◌, List, ℕ, sym, ap, bytes_eq}
use Rattle.attribute_types.specs.Spacing.{words_in, tailed}
use Rattle.attribute_types.proofs.Cuts.{collapsed-first, unlike, eq_cut}
use Rattle.attribute_types.proofs.spacing.is_collapsed_to.Goals as goal

pub returns-in-None-after_word : goal.returns-in-None-after_word
returns-in-None-after_word c =
    let w = c.in-Some.word.now in
    let ws = words_in c.in-Some.rest.now in
    sym (ap (λ (t : List ℕ). bytes_eq t c.args.text.now) (collapsed-first c.args.value.now w ws c.in-Some.ensures.0) ∙ unlike w (tailed ws) c.args.text.now c.in-None-after_word.ensures)

pub returns-in-Some-after_word : goal.returns-in-Some-after_word
returns-in-Some-after_word c =
    let w = c.in-Some.word.now in
    let ws = words_in c.in-Some.rest.now in
    let left = c.in-Some-after_word.left.now in
    c.goes_on.ensures ∙ sym (
    ap (λ (t : List ℕ). bytes_eq t c.args.text.now) (collapsed-first c.args.value.now w ws c.in-Some.ensures.0)
    ∙ (ap (λ (t : List ℕ). bytes_eq (w ++ tailed ws) t) c.in-Some-after_word.ensures ∙ eq_cut w (tailed ws) left))
