use Rattle.bound_checker.specs.Holding.{costs_in}
use Rattle.bound_checker.specs.Tests.{on_pair, failing}
use Rattle.bound_checker.proofs.Firsts.{IsLeft}
use Rattle.bound_checker.proofs.check.on_pairs.Given as goal

abbrev pub invariant-loop-at : goal.invariant-loop-at
invariant-loop-at l = IsLeft (λ n x. failing (on_pair l.held.first.now l.held.second.now l.held.tables.now.cap (costs_in l.held) l.held.place l.held.name.now l.held.automaton.now l.other x)) l.held.row.now.pairs l.at
