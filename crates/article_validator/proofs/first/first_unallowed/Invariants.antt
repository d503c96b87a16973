use Rattle.std.proofs.Common.{◌≡◌, length}
use Rattle.attlist_merge.specs.Oddness.{first_some}
use Rattle.article_validator.specs.First.{unallowed}
use Rattle.article_validator.proofs.first.first_unallowed.Given as goal

abbrev pub invariant-loop-att : goal.invariant-loop-att
invariant-loop-att l = first_some (unallowed l.list) l.rest ≡ first_some (unallowed l.list) l.atts

abbrev pub decreases-loop-att : goal.decreases-loop-att
decreases-loop-att l = length l.rest
