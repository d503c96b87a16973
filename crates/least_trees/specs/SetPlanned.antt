-- The plan of a set stays within its bounds.
use Rattle.std.proofs.Common.{◌≡◌, ◌≤◌, ◌<◌, ◌+◌, ◌*◌, ℕ, zero, suc, List, [], ◌∷◌, length, map, Bool, true, false, Option, Some, None, slice_get, IsTrue, Contains, refl, sym, ap, ◌∙◌, subst, arith, true≢false}
use Rattle.std.specs.Option.{option_map_or}
use Rattle.std.proofs.lemmas.Option.{slice_get_within}
use Rattle.content_models.specs.declared.content.Content.{Content}
use Rattle.content_models.specs.declared.content.Content.TheVariants.{Empty, Any, Mixed, Children}
use Rattle.content_models.specs.Model.{Chars}
use Rattle.position_automata.specs.Automata.{states}
use Rattle.position_automata.specs.Stepping.{does_accept}
use Rattle.position_automata.proofs.Meaning.{to_member}
use Rattle.position_automata.proofs.Stepping.{accepts_by_test, accept_within, step_within, are_within}
use Rattle.position_automata.proofs.Words.{Member, unmapped}
use Rattle.decl_set.specs.Declarations.{Declarations, Element}
use Rattle.decl_set.specs.Steps.{steps_in, steps_at}
use Rattle.tree_costs.specs.Leasts.{place_of}
use Rattle.tree_costs.proofs.Places.{stands_at}
use Rattle.tree_costs.proofs.Steps.{follows_in}
use Rattle.least_trees.specs.Plans.{Step, IsOn, IsState, IsWithin, IsPlan}
use Rattle.least_trees.specs.SetPlans.{plan_of}

one_state : (a : Content) → 1 ≤ states a
one_state Empty = omega arith
one_state Any = omega arith
one_state (Mixed listed) = omega arith
one_state (Children part) = omega arith

module _ (set : Declarations) (cap : ℕ) where
  abbrev numbered : Chars × ℕ → Step
  numbered t = (place_of set t.0, t.1)

  abbrev states_at : Option Element → ℕ
  states_at o = option_map_or (λ x. states x.1) o 0

  some_states : (es : List Element) (e : ℕ) → e < length es → 0 < states_at (slice_get es e)
  some_states [] e h = absurd (omega arith)
  some_states (x ∷ es) zero h = omega (arith, one_state x.1)
  some_states (x ∷ es) (suc e) h = some_states es e (omega arith)

  in_list : (es : List Element) (e i : ℕ) → i < states_at (slice_get es e) → e < length es
  in_list [] e i h = absurd (omega arith)
  in_list (x ∷ es) zero i h = omega arith
  in_list (x ∷ es) (suc e) i h = omega (arith, in_list es e i h)

  accept_in : (o : Option Element) (i : ℕ) → IsTrue (option_map_or (λ x. does_accept x.1 i) o false) → i < states_at o
  accept_in None i h = absurd (true≢false (sym h))
  accept_in (Some x) i h = accept_within x.1 i ((accepts_by_test x.1 i).0 h)

  on_place : (name : Chars) (o : Option ℕ) → place_of set name ≡ o → IsOn (length set.elements) o
  on_place name None q = tt
  on_place name (Some y) q = let t = stands_at set name y q in slice_get_within set.elements y (name, t.0) t.2

  step_in : (o : Option Element) (i : ℕ) (step : Step) → Contains (map numbered (steps_at set o i)) step
      → (i < states_at o) × (step.1 < states_at o) × IsOn (length set.elements) step.0
  step_in None i step h = elim (to_member (map numbered []) step h) [ ]
  step_in (Some x) i step h =
      let m = unmapped {B = Step} numbered (steps_in set x.1 i) step (to_member (map numbered (steps_in set x.1 i)) step h) in
      let f = follows_in set x.1 i m.0.1 m.0.0 m.1 in
      let w = are_within x.1 in (
        w.before i m.0.1 m.0.0 f,
        subst (λ k. k < states x.1) (sym (ap (λ z. z.1) m.2)) (w.after i m.0.1 m.0.0 f),
        on_place m.0.0 step.0 (sym (ap (λ z. z.0) m.2)),
      )

  pub is_plan : cap ≤ 100000 → IsPlan (plan_of set cap)
  is_plan small = record {
    cap = small;
    starts = some_states set.elements;
    positive = λ e h. omega arith;
    light = λ e h. omega arith;
    accepting = λ e i h. let s = accept_in (slice_get set.elements e) i h in (in_list set.elements e i s, s);
    stepping = λ e i step h. let s = (step_in (slice_get set.elements e) i step h).0 in (in_list set.elements e i s, s);
    within = λ e i step h. let t = step_in (slice_get set.elements e) i step h in (t.1, t.2);
  }
