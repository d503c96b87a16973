use Rattle.std.proofs.Common.{length}
use Rattle.article_validator.proofs.Named.{NamedTo}
use Rattle.article_validator.proofs.specified.names_of.Given as goal

abbrev pub invariant-loop-att : goal.invariant-loop-att
invariant-loop-att l = NamedTo l.atts l.names.keys l.rest

abbrev pub decreases-loop-att : goal.decreases-loop-att
decreases-loop-att l = length l.rest
