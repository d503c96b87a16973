use Rattle.decl_set.specs.Steps.{steps_in}
use Rattle.bound_checker.specs.Holding.{costs_in}
use Rattle.bound_checker.specs.Tests.{on_step, failing}
use Rattle.bound_checker.proofs.Firsts.{IsLeft}
use Rattle.bound_checker.proofs.check.on_steps.Given as goal

abbrev pub invariant-loop-step : goal.invariant-loop-step
invariant-loop-step l = IsLeft (λ n s. failing (on_step l.held.first.now l.held.second.now l.held.tables.now.cap (costs_in l.held) l.held.place l.held.name.now l.state n s)) (steps_in l.held.first.now l.held.automaton.now l.state) l.step
