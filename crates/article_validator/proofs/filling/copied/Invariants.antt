use Rattle.std.proofs.Common.{◌≡◌, take}
use Rattle.article_validator.proofs.filling.copied.Given as goal

abbrev pub invariant-loop-att : goal.invariant-loop-att
invariant-loop-att l = l.copy ≡ take l.att-index l.atts
