use Rattle.std.proofs.Common.{drop}
use Rattle.bound_checker.specs.Certificates.{row_lines}
use Rattle.bound_checker.proofs.Putting.{IsPut}
use Rattle.bound_checker.proofs.printing.push_rows.Given as goal

abbrev pub invariant-loop-at : goal.invariant-loop-at
invariant-loop-at l = IsPut l.initial.out l.out (row_lines (drop l.at l.first.elements) (drop l.at l.tables.rows)) (row_lines l.first.elements l.tables.rows)
