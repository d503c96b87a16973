-- The literal plan stays within its bounds.
use Rattle.std.proofs.Common.{◌≤◌, ◌<◌, ℕ, zero, suc, IsTrue, inl, inr, sym, subst, arith, true≢false}
use Rattle.position_automata.proofs.Meaning.{to_member}
use Rattle.position_automata.proofs.Words.{Member}
use Rattle.least_trees.specs.Plans.{Step, IsState, IsWithin, IsPlan}
use Rattle.layer_tests.specs.LiteralPlan.{states, weight, accepts, steps, literal_plan}

has_start : (e : ℕ) → e < 2 → 0 < states e
has_start zero h = omega arith
has_start (suc zero) h = omega arith
has_start (suc (suc e)) h = absurd (omega arith)

weighs : (e : ℕ) → 1 ≤ weight e
weighs zero = omega arith
weighs (suc e) = omega arith

is_light : (e : ℕ) → weight e ≤ 101
is_light zero = omega arith
is_light (suc e) = omega arith

accepting : (e i : ℕ) → IsTrue (accepts e i) → IsState literal_plan e i
accepting zero zero h = absurd (true≢false (sym h))
accepting zero (suc zero) h = (omega arith, omega arith)
accepting zero (suc (suc i)) h = absurd (true≢false (sym h))
accepting (suc zero) zero h = (omega arith, omega arith)
accepting (suc zero) (suc i) h = absurd (true≢false (sym h))
accepting (suc (suc e)) i h = absurd (true≢false (sym h))

-- a step leads from a state, and stays within the plan
abbrev Stays : ℕ → ℕ → Step → Type 0
Stays e i step = IsState literal_plan e i × IsWithin literal_plan e step

stays : (e i : ℕ) (step : Step) → Member step (steps e i) → Stays e i step
stays zero zero step (inl q) = subst (Stays 0 0) (sym q) ((omega arith, omega arith), (omega arith, tt))
stays zero zero step (inr (inl q)) = subst (Stays 0 0) (sym q) ((omega arith, omega arith), (omega arith, omega arith))
stays zero zero step (inr (inr (inl q))) = subst (Stays 0 0) (sym q) ((omega arith, omega arith), (omega arith, omega arith))
stays zero zero step (inr (inr (inr m))) = elim m [ ]
stays zero (suc i) step m = elim m [ ]
stays (suc zero) zero step (inl q) = subst (Stays 1 0) (sym q) ((omega arith, omega arith), (omega arith, omega arith))
stays (suc zero) zero step (inr m) = elim m [ ]
stays (suc zero) (suc i) step m = elim m [ ]
stays (suc (suc e)) i step m = elim m [ ]

pub is_plan : IsPlan literal_plan
is_plan = record {
  cap = omega arith;
  starts = has_start;
  positive = λ e h. weighs e;
  light = λ e h. is_light e;
  accepting = accepting;
  stepping = λ e i step h. (stays e i step (to_member (steps e i) step h)).0;
  within = λ e i step h. (stays e i step (to_member (steps e i) step h)).1;
}
