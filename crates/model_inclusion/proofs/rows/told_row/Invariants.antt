use Rattle.std.proofs.Common.{◌≡◌, take}
use Rattle.position_automata.specs.Stepping.{steps_of}
use Rattle.model_inclusion.specs.Rows.{numbered}
use Rattle.model_inclusion.proofs.rows.told_row.Given as goal

abbrev pub invariant-loop-k : goal.invariant-loop-k
invariant-loop-k l = l.row ≡ numbered l.live (take l.k (steps_of l.automaton l.state))
