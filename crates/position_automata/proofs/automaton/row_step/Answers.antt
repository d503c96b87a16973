use Rattle.std.proofs.Common.{ℕ, List, [], Contains, subst}
use Rattle.std.specs.Prelude.{MatchOption}
use Rattle.position_automata.proofs.automaton.row_step.Goals as goal

pub returns-in-Some : goal.returns-in-Some
returns-in-Some c =
    let h = c.in-Some.ensures.lookup in
    subst (λ (k : List (ℕ × ℕ)). MatchOption c.step_on.result ((p : ℕ) → Contains k (c.args.number, p) → ⊥) (λ p. Contains k (c.args.number, p)))
    (h.3.1 []) c.step_on.ensures.found
