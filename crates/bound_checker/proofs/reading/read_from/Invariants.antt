use Rattle.std.proofs.Common.{◌≡◌, length}
use Rattle.bound_checker.specs.Certificates.{read_from}
use Rattle.bound_checker.specs.Lines.{lines_of}
use Rattle.bound_checker.proofs.reading.read_from.Given as goal

abbrev pub invariant-loop-line : goal.invariant-loop-line
invariant-loop-line l =
    read_from l.first l.second (lines_of l.initial.at.rest.now) l.initial.at.line ≡ read_from l.first l.second (lines_of l.at.rest.now) l.at.line

abbrev pub decreases-loop-line : goal.decreases-loop-line
decreases-loop-line l = length l.at.rest.now
