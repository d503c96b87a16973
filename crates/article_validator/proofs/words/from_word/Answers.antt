use Rattle.std.proofs.Common.{◌∙◌, ap, sym, subst}
use Rattle.attribute_types.specs.Spacing.{words_in, BeginsWord}
use Rattle.attribute_types.proofs.Cuts.{from_word_words, from_word_begins}
use Rattle.article_validator.proofs.words.from_word.Goals as goal

pub returns-clause-words : goal.returns-clause-words
returns-clause-words c = ap words_in c.split_at.ensures.back ∙ from_word_words c.args.text.now c.spaces.result c.spaces.ensures.value

pub returns-clause-begins : goal.returns-clause-begins
returns-clause-begins c = subst BeginsWord (sym c.split_at.ensures.back) (from_word_begins c.args.text.now c.spaces.result c.spaces.ensures.value)
