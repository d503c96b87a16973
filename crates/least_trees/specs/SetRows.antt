-- A settled row of costs as one of a set's table.
use Rattle.tree_costs.specs.declared.cost.Cost.{Cost}
use Rattle.tree_costs.specs.declared.least.LeastRow.{LeastRow}
use Rattle.least_trees.specs.declared.settled.SettledRow.{SettledRow}

abbrev pub least_row : SettledRow Cost → LeastRow
least_row row = record { m = row.m; p = row.p }
