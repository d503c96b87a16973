use Rattle.std.specs.List.{range_with_len}
use Rattle.position_automata.specs.Automata.{states}
use Rattle.bound_checker.specs.Holding.{costs_in}
use Rattle.bound_checker.specs.Tests.{on_state, failing}
use Rattle.bound_checker.proofs.Firsts.{IsLeft}
use Rattle.bound_checker.proofs.check.on_states.Given as goal

abbrev pub invariant-loop-state : goal.invariant-loop-state
invariant-loop-state l =
    IsLeft (λ n i. failing (on_state l.held.first.now l.held.second.now l.held.tables.now.cap (costs_in l.held) l.held.place l.held.name.now l.held.automaton.now i)) (range_with_len 0 (states l.held.automaton.now)) l.state
