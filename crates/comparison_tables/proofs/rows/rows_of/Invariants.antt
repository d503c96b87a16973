use Rattle.comparison_tables.specs.Rows.{AreRows}
use Rattle.comparison_tables.proofs.rows.rows_of.Given as goal

abbrev pub invariant-loop-place : goal.invariant-loop-place
invariant-loop-place l = AreRows l.first l.second l.sides l.settled l.place l.rows
