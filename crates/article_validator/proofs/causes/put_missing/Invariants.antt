use Rattle.std.proofs.Common.{◌≡◌, ◌++◌, map, drop}
use Rattle.std.specs.List.{flat_map}
use Rattle.article_validator.specs.Faults.{invalid}
use Rattle.article_validator.specs.Structure.{missing_causes}
use Rattle.article_validator.proofs.causes.put_missing.Given as goal

abbrev pub invariant-loop-at : goal.invariant-loop-at
invariant-loop-at l = l.list ++ map (invalid l.number l.node.name) (flat_map (missing_causes l.node.atts) (drop l.at l.atts)) ≡ l.fn.list ++ map (invalid l.number l.node.name) (flat_map (missing_causes l.node.atts) l.atts)
