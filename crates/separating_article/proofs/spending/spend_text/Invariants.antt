use Rattle.std.proofs.Common.{◌≡◌, ◌+◌, drop}
use Rattle.separating_article.specs.Sizes.{bytes}
use Rattle.separating_article.proofs.spending.spend_text.Given as goal

abbrev pub invariant-loop-c : goal.invariant-loop-c
invariant-loop-c l = l.room + bytes (drop l.c-index l.text) ≡ l.left + bytes l.text
