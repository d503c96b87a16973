use Rattle.std.proofs.Common.{◌≡◌}
use Rattle.comparison_tables.specs.Rows.{state_rows}
use Rattle.comparison_tables.proofs.rows.state_rows.Given as goal

abbrev pub invariant-loop-i : goal.invariant-loop-i
invariant-loop-i l = l.rows ≡ state_rows l.states l.own l.copy l.i
