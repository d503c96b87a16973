use Rattle.std.proofs.Common.{◌∙◌, sym}
use Rattle.article_tree.proofs.TextSizes.{marked_text}
use Rattle.article_tree.proofs.counted.count_marked.Goals as goal

pub returns-then-is_white : goal.returns-then-is_white
returns-then-is_white c =
    marked_text c.in-Some.c.now c.in-Some.rest.now c.args.text.now c.args.before c.reference_size.result c.saturating_add-total.result c.count_run_chars.result
    c.in-Some.ensures.cases.0 (sym c.is_space.ensures ∙ c.if-is_space.true) (sym c.is_white.ensures ∙ c.if-is_white.true) c.reference_size.ensures c.saturating_add-total.ensures c.count_run_chars.ensures
