use Rattle.std.proofs.Common.{◌≡◌, ◌+◌, drop}
use Rattle.std.specs.List.{flat_map}
use Rattle.article_tree.specs.Writing.{value_char}
use Rattle.separating_article.specs.Sizes.{bytes}
use Rattle.separating_article.proofs.spending.spend_value.Given as goal

abbrev pub invariant-loop-c : goal.invariant-loop-c
invariant-loop-c l = l.room + bytes (flat_map value_char (drop l.c-index l.text)) ≡ l.left + bytes (flat_map value_char l.text)
