use Rattle.std.proofs.Common.{◌∙◌, ap}
use Rattle.std.specs.List.{list_all}
use Rattle.jats_chars.specs.Classes.{is_name_char as name_char}
use Rattle.article_tree.proofs.FirstLetters.{word_chars}
use Rattle.article_tree.proofs.fronts.take_name.Goals as goal

pub begins_name-requires : goal.begins_name-requires
begins_name-requires c = ap (list_all name_char) c.word.ensures.word ∙ word_chars c.args.text.now
