use Rattle.std.proofs.Common.{◌≡◌, map, take}
use Rattle.least_trees.specs.SetRows.{least_row}
use Rattle.least_trees.proofs.set_costs.least_rows.Given as goal

abbrev pub invariant-loop-row : goal.invariant-loop-row
invariant-loop-row l = l.rows ≡ map least_row (take l.row-index l.settled)
