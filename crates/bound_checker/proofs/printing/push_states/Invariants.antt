use Rattle.std.proofs.Common.{drop}
use Rattle.bound_checker.specs.Certificates.{state_lines}
use Rattle.bound_checker.proofs.Putting.{IsPut}
use Rattle.bound_checker.proofs.printing.push_states.Given as goal

abbrev pub invariant-loop-i : goal.invariant-loop-i
invariant-loop-i l = IsPut l.initial.out l.out (state_lines l.i (drop l.i l.states)) (state_lines 0 l.states)
