use Rattle.std.proofs.Common.{◌≡◌, ◌++◌, map, length}
use Rattle.std.specs.List.{flat_map}
use Rattle.article_validator.specs.Faults.{invalid}
use Rattle.article_validator.specs.Structure.{specified_causes}
use Rattle.article_validator.proofs.causes.put_specified.Given as goal

abbrev pub invariant-loop-att : goal.invariant-loop-att
invariant-loop-att l = l.list ++ map (invalid l.number l.node.name) (flat_map (specified_causes l.atts) l.rest) ≡ l.fn.list ++ map (invalid l.number l.node.name) (flat_map (specified_causes l.atts) l.node.atts)

abbrev pub decreases-loop-att : goal.decreases-loop-att
decreases-loop-att l = length l.rest
