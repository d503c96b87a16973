use Rattle.std.proofs.Common.{◌≡◌, ◌++◌, drop}
use Rattle.comparison_tables.specs.Rows.{pair_rows}
use Rattle.comparison_tables.proofs.rows.pair_rows.Given as goal

abbrev pub invariant-loop-at : goal.invariant-loop-at
invariant-loop-at l = l.rows ++ pair_rows l.states l.copy l.at (drop l.at l.pairs) ≡ pair_rows l.states l.copy 0 l.pairs
