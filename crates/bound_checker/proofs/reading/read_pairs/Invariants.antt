use Rattle.std.proofs.Common.{◌≡◌, length, None}
use Rattle.std.specs.Option.{option_copied}
use Rattle.bound_checker.specs.Certificates.{read_pairs}
use Rattle.bound_checker.specs.Lines.{lines_of}
use Rattle.bound_checker.proofs.Glued.{glued}
use Rattle.bound_checker.proofs.reading.read_pairs.Given as goal

abbrev pub invariant-loop-words : goal.invariant-loop-words
invariant-loop-words l =
    read_pairs l.cap l.own (option_copied l.other) (lines_of l.initial.at.rest.now) None l.initial.at.line ≡ glued l.rows (read_pairs l.cap l.own (option_copied l.other) (lines_of l.at.rest.now) l.last l.at.line)

abbrev pub decreases-loop-words : goal.decreases-loop-words
decreases-loop-words l = length l.at.rest.now
