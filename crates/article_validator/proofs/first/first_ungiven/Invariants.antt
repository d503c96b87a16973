use Rattle.std.proofs.Common.{◌≡◌, drop}
use Rattle.attlist_merge.specs.Oddness.{first_some}
use Rattle.article_validator.specs.First.{ungiven}
use Rattle.article_validator.proofs.first.first_ungiven.Given as goal

abbrev pub invariant-loop-at : goal.invariant-loop-at
invariant-loop-at l = first_some (ungiven l.atts) (drop l.at l.list) ≡ first_some (ungiven l.atts) l.list
