use Rattle.std.proofs.Common.{◌∙◌, length, sym, arith}
use Rattle.std.proofs.lemmas.Bool.{eqb-true, eqb-false}
use Rattle.attribute_types.proofs.Cuts.{first_cut, no_words}
use Rattle.article_validator.proofs.words.first_word.Goals as goal

pub returns-then-is_empty : goal.returns-then-is_empty
returns-then-is_empty c =
    sym c.from_word-text.ensures.words ∙ no_words c.from_word-text.result.now (eqb-true _ 0 (sym c.is_empty.ensures ∙ c.if-is_empty.true))

pub returns : goal.returns
returns c =
    let told = first_cut c.from_word-text.result.now c.front_len.result c.split_at.result.0.now c.split_at.result.1.now c.from_word-text.ensures.begins (eqb-false (length c.from_word-text.result.now) 0 (sym c.is_empty.ensures ∙ c.if-is_empty.false)) c.front_len.ensures.value c.split_at.ensures.front c.split_at.ensures.back in
    (sym c.from_word-text.ensures.words ∙ told.0, omega (arith, told.1))
