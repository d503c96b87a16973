use Rattle.std.proofs.Common.{[], ◌∷◌}
use Rattle.decl_set.specs.Steps.{steps_in}
use Rattle.position_automata.specs.Stepping.{step_on}
use Rattle.bound_checker.specs.Holding.{costs_in}
use Rattle.bound_checker.specs.Tests.{on_both, failing}
use Rattle.bound_checker.proofs.Firsts.{IsLeft}
use Rattle.bound_checker.proofs.check.on_pair_steps.Given as goal

abbrev pub invariant-loop-step : goal.invariant-loop-step
invariant-loop-step l =
    IsLeft (λ n s. failing (on_both l.held.first.now l.held.second.now l.held.tables.now.cap (costs_in l.held) l.held.place l.held.name.now l.pair.i l.pair.j n s (step_on l.other l.pair.j s.0) ∷ []))
    (steps_in l.held.first.now l.held.automaton.now l.pair.i) l.step
