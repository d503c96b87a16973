use Rattle.std.proofs.Common.{◌-◌, length}
use Rattle.comparison_tables.specs.Finding.{AreFound}
use Rattle.comparison_tables.proofs.sides.sides_of.Given as goal

abbrev pub invariant-loop-name : goal.invariant-loop-name
invariant-loop-name l = record { found : AreFound l.first l.second l.sides l.left }

abbrev pub decreases-loop-name : goal.decreases-loop-name
decreases-loop-name l = length l.first.elements - length l.sides
