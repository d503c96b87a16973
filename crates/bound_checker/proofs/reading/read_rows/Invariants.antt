use Rattle.std.proofs.Common.{◌≡◌, drop}
use Rattle.bound_checker.specs.Certificates.{read_rows}
use Rattle.bound_checker.specs.Lines.{lines_of}
use Rattle.bound_checker.proofs.Glued.{glued}
use Rattle.bound_checker.proofs.reading.read_rows.Given as goal

abbrev pub invariant-loop-place : goal.invariant-loop-place
invariant-loop-place l =
    read_rows l.cap l.second l.first.elements l.initial.at.line (lines_of l.initial.at.rest.now)
    ≡ glued l.rows (read_rows l.cap l.second (drop l.place l.first.elements) l.at.line (lines_of l.at.rest.now))
