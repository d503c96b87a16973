use Rattle.bound_checker.specs.Tabled.{costs_of}
use Rattle.bound_checker.specs.Tests.{on_element, pairs_of, failing}
use Rattle.bound_checker.proofs.Firsts.{IsLeft}
use Rattle.bound_checker.proofs.check.first_broken.Given as goal

abbrev pub invariant-loop-place : goal.invariant-loop-place
invariant-loop-place l = IsLeft (λ n x. failing (on_element l.first l.second l.tables.cap (costs_of l.first l.tables) (pairs_of l.first l.tables) n x)) l.first.elements l.place
