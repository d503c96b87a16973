use Rattle.std.proofs.Common.{◌≡◌, take}
use Rattle.model_inclusion.specs.Rows.{asked}
use Rattle.model_inclusion.proofs.rows.asked_row.Given as goal

abbrev pub invariant-loop-name : goal.invariant-loop-name
invariant-loop-name l = l.row ≡ asked l.live l.automaton l.state (take l.name-index l.live)
