use Rattle.std.proofs.Common.{◌≡◌, ◌-◌}
use Rattle.bound_checker.specs.Certificates.{read_states}
use Rattle.bound_checker.specs.Lines.{lines_of}
use Rattle.bound_checker.proofs.Glued.{glued}
use Rattle.bound_checker.proofs.reading.read_states.Given as goal

abbrev pub invariant-loop-i : goal.invariant-loop-i
invariant-loop-i l =
    read_states l.cap l.count 0 l.initial.at.line (lines_of l.initial.at.rest.now) ≡ glued l.rows (read_states l.cap (l.count - l.i) l.i l.at.line (lines_of l.at.rest.now))
