-- The plan of a comparison stays within its bounds.
use Rattle.std.proofs.Common.{◌≡◌, ◌≤◌, ◌<◌, ◌+◌, ◌-◌, ℕ, zero, suc, ◌⊎◌, inl, inr, List, [], ◌∷◌, length, map, Bool, true, false, cond, Option, Some, None, slice_get, IsTrue, Contains, refl, sym, ap, ◌∙◌, subst, arith, true≢false}
use Rattle.std.specs.Option.{option_map}
use Rattle.std.proofs.lemmas.Bool.{ltb-true, ltb-false}
use Rattle.std.proofs.lemmas.Option.{slice_get_within}
use Rattle.attribute_types.proofs.TextTests.{on_test}
use Rattle.content_models.specs.declared.content.Content.{Content}
use Rattle.content_models.specs.declared.content.Content.TheVariants.{Empty, Any, Mixed, Children}
use Rattle.content_models.specs.Model.{Chars}
use Rattle.position_automata.specs.Automata.{states}
use Rattle.position_automata.specs.Stepping.{step_on}
use Rattle.position_automata.proofs.Meaning.{to_member}
use Rattle.position_automata.proofs.Stepping.{accepts_by_test, accept_within, are_within}
use Rattle.position_automata.proofs.Words.{Member, unmapped}
use Rattle.decl_set.specs.Children.{child_step}
use Rattle.decl_set.specs.Declarations.{Declarations, Element, content_in}
use Rattle.decl_set.specs.Steps.{steps_in}
use Rattle.tree_costs.specs.Leasts.{place_of}
use Rattle.tree_costs.proofs.Places.{stands_at}
use Rattle.tree_costs.proofs.Steps.{follows_in}
use Rattle.least_trees.specs.Plans.{Plan, Step, IsOn, IsState, IsPlan}
use Rattle.comparison_tables.specs.declared.kinds.Kind.{Kind}
use Rattle.comparison_tables.specs.declared.kinds.Kind.TheVariants as kind
use Rattle.comparison_tables.specs.declared.sides.Side.{Side}
use Rattle.comparison_tables.specs.Sides.{FitSides, AreSides, Known, known, known_by, known_at, pair_place}
use Rattle.comparison_tables.specs.Copies.{copy_states, kind_in, kind_accepts, to_go, to_copy, to_wrong, to_listed, to_either, to_other, to_odd, pair_step, wrong_steps, start_steps, kind_steps}
use Rattle.comparison_tables.specs.Plans.{own_states, own_accepts, own_steps, states_of_copy, copy_accepts_at, steps_of_copy, is_own, known_of, plan_of}
use Rattle.comparison_tables.proofs.Halves.{place_stands}
use Rattle.comparison_tables.proofs.Kinded.{IsNumber, numbered}
use Rattle.comparison_tables.proofs.Knowing.{pairs_ascend}
use Rattle.comparison_tables.proofs.Lists.{flat_member}
use Rattle.comparison_tables.specs.Shapes.{AreFine}

pub one_state : (a : Content) → 1 ≤ states a
one_state Empty = omega arith
one_state Any = omega arith
one_state (Mixed listed) = omega arith
one_state (Children part) = omega arith

-- ---- an element itself

some_states : (es : List Element) (x : ℕ) → x < length es → 0 < own_states (slice_get es x)
some_states [] x h = absurd (omega arith)
some_states (e ∷ es) zero h = omega (arith, one_state e.1)
some_states (e ∷ es) (suc x) h = some_states es x (omega arith)

own_accept_in : (o : Option Element) (i : ℕ) → own_accepts o i ≡ true → i < own_states o
own_accept_in None i h = absurd (true≢false (sym h))
own_accept_in (Some x) i h = accept_within x.1 i ((accepts_by_test x.1 i).0 h)

on_more : (n m : ℕ) (o : Option ℕ) → n ≤ m → IsOn n o → IsOn m o
on_more n m None l h = tt
on_more n m (Some x) l h = omega arith

on_copy : (n : ℕ) (o : Option ℕ) → IsOn n o → IsOn (n + n) (option_map (λ x. n + x) o)
on_copy n None h = tt
on_copy n (Some x) h = omega arith

module _ (first : Declarations) where
  on_place : (name : Chars) (o : Option ℕ) → place_of first name ≡ o → IsOn (length first.elements) o
  on_place name None q = tt
  on_place name (Some y) q = let t = stands_at first name y q in slice_get_within first.elements y (name, t.0) t.2

  -- a step of a content stays within it
  pub step_in : (a : Content) (i : ℕ) (s : Chars × ℕ) → Member s (steps_in first a i) → (i < states a) × (s.1 < states a) × IsOn (length first.elements) (place_of first s.0)
  step_in a i s m =
      let f = follows_in first a i s.1 s.0 m in
      let w = are_within a in
      (w.before i s.1 s.0 f, w.after i s.1 s.0 f, on_place s.0 (place_of first s.0) refl)

  own_step_in : (o : Option Element) (i : ℕ) (step : Step) → Contains (own_steps first o i) step
      → (i < own_states o) × (step.1 < own_states o) × IsOn (length first.elements + length first.elements) step.0
  own_step_in None i step h = elim (to_member (map (child_step first) []) step h) [ ]
  own_step_in (Some x) i step h =
      let m = unmapped {B = Step} (child_step first) (steps_in first x.1 i) step (to_member (map (child_step first) (steps_in first x.1 i)) step h) in
      let w = step_in x.1 i m.0 m.1 in (
        w.0,
        subst (λ (z : Step). z.1 < states x.1) (sym m.2) w.1,
        subst (λ (z : Step). IsOn (length first.elements + length first.elements) z.0) (sym m.2)
            (on_more (length first.elements) (length first.elements + length first.elements) (place_of first m.0.0) (omega arith) w.2),
      )

-- ---- its copy

none_beyond : (k : Known) (t : ℕ) (kd : Kind) → IsNumber (states k.content) k.pairs t kd → (t < copy_states k) ⊎ (kd ≡ kind.Beyond)
none_beyond k t kind.Start h = inl (omega (arith, h))
none_beyond k t (kind.Go i) h = inl (omega (arith, h.0, h.1))
none_beyond k t (kind.Wrong i) h = inl (omega (arith, h.0, h.1))
none_beyond k t (kind.Pair i j) h = inl (let l = slice_get_within k.pairs h.0 (i, j) h.1 in omega (arith, l, h.2))
none_beyond k t kind.Beyond h = inr refl

module _ (first : Declarations) (k : Known) where
  abbrev n : ℕ
  n = length first.elements

  abbrev In : Step → Type 0
  In step = (step.1 < copy_states k) × IsOn (n + n) step.0

  abbrev Early : Step → Type 0
  Early step = (step.1 < states k.content) × IsOn n step.0

  go_in : (c : Step) → Early c → In (to_go c)
  go_in c h = (omega (arith, h.0), on_more n (n + n) c.0 (omega arith) h.1)

  copy_in : (c : Step) → Early c → In (to_copy n c)
  copy_in c h = (omega (arith, h.0), on_copy n c.0 h.1)

  wrong_in : (c : Step) → Early c → In (to_wrong (states k.content) c)
  wrong_in c h = (omega (arith, h.0), on_more n (n + n) c.0 (omega arith) h.1)

  listed_in : (c : Step) (l : ℕ) (o : Option ℕ) → pair_place k.pairs c.1 l ≡ o → Early c → In (to_listed (states k.content) c o)
  listed_in c l None q h = (omega arith, tt)
  listed_in c l (Some at) q h =
      let w = slice_get_within k.pairs at (c.1, l) (place_stands k.pairs c.1 l at q) in
      (omega (arith, w), on_more n (n + n) c.0 (omega arith) h.1)

  either_in : (c : Step) (o : Option ℕ) → Early c → In (to_either k c o)
  either_in c None h = go_in c h
  either_in c (Some l) h = listed_in c l (pair_place k.pairs c.1 l) refl h

  other_in : (o : Option Content) (j : ℕ) (name : Chars) (c : Step) → Early c → In (to_other k o j name c)
  other_in None j name c h = (omega arith, tt)
  other_in (Some b) j name c h = either_in c (step_on b j name) h

  odd_in_step : (odd : Bool) (c : Step) → Early c → In (to_odd odd c)
  odd_in_step true c h = go_in c h
  odd_in_step false c h = (omega arith, tt)

  early : (i : ℕ) (s : Chars × ℕ) → Member s (steps_in first k.content i) → Early (child_step first s)
  early i s m = let w = step_in first k.content i s m in (w.1, w.2)

  wrong_steps_in : (s : Chars × ℕ) (step : Step) → Early (child_step first s) → Member step (wrong_steps first k n s) → In step
  wrong_steps_in s step h (inl q) = subst In (sym q) (copy_in (child_step first s) h)
  wrong_steps_in s step h (inr (inl q)) = subst In (sym q) (wrong_in (child_step first s) h)
  wrong_steps_in s step h (inr (inr m)) = elim m [ ]

  start_steps_in : (s : Chars × ℕ) (step : Step) → Early (child_step first s) → Member step (start_steps first k n s) → In step
  start_steps_in s step h (inl q) = subst In (sym q) (copy_in (child_step first s) h)
  start_steps_in s step h (inr (inl q)) = subst In (sym q) (wrong_in (child_step first s) h)
  start_steps_in s step h (inr (inr (inl q))) = subst In (sym q) (other_in k.other 0 s.0 (child_step first s) h)
  start_steps_in s step h (inr (inr (inr (inl q)))) = subst In (sym q) (odd_in_step k.odd (child_step first s) h)
  start_steps_in s step h (inr (inr (inr (inr m)))) = elim m [ ]

  kind_steps_in : (kd : Kind) (step : Step) → Member step (kind_steps first k n kd) → In step
  kind_steps_in kind.Start step m =
      let t = flat_member (start_steps first k n) (steps_in first k.content 0) step m in
      start_steps_in t.0 step (early 0 t.0 t.1) t.2
  kind_steps_in (kind.Go i) step m =
      let t = unmapped {B = Step} (λ s. to_go (child_step first s)) (steps_in first k.content i) step m in
      subst In (sym t.2) (go_in (child_step first t.0) (early i t.0 t.1))
  kind_steps_in (kind.Wrong i) step m =
      let t = flat_member (wrong_steps first k n) (steps_in first k.content i) step m in
      wrong_steps_in t.0 step (early i t.0 t.1) t.2
  kind_steps_in (kind.Pair i j) step m =
      let t = unmapped {B = Step} (pair_step first k j) (steps_in first k.content i) step m in
      subst In (sym t.2) (other_in k.other j t.0.0 (child_step first t.0) (early i t.0 t.1))
  kind_steps_in kind.Beyond step m = elim m [ ]

  accepts_below : (t : ℕ) (kd : Kind) → IsNumber (states k.content) k.pairs t kd → kind_accepts k kd ≡ true → t < copy_states k
  accepts_below t kd h q = elim (none_beyond k t kd h) [ inl l ↦ l | inr e ↦ absurd (true≢false (sym q ∙ ap (kind_accepts k) e)) ]

  steps_below : (t : ℕ) (kd : Kind) (step : Step) → IsNumber (states k.content) k.pairs t kd → Member step (kind_steps first k n kd) → t < copy_states k
  steps_below t kd step h m = elim (none_beyond k t kd h) [
    | inl l ↦ l
    | inr e ↦ absurd (let none : Member step [] = subst (λ (z : Kind). Member step (kind_steps first k n z)) e m in elim none [ ])
  ]

known_within : (first second : Declarations) (sides : List Side) (x : ℕ) (k : Known) → known_at first second sides x ≡ Some k → x < length first.elements
known_within first second sides x k h = by (slice_get first.elements x) refl
  where
    by : (o : Option Element) → slice_get first.elements x ≡ o → x < length first.elements
    by None q = absurd (let none : None ≡ Some k = sym (ap (λ (z : Option Element). known_by second z (slice_get sides x)) q) ∙ h in cc)
    by (Some e) q = slice_get_within first.elements x e q

known_there : (first second : Declarations) (sides : List Side) (x : ℕ) → AreFine first.elements sides → x < length first.elements → (k : Known) × (known_at first second sides x ≡ Some k)
known_there first second sides x S l = by first.elements sides x S l
  where
    by : (es : List Element) (sides : List Side) (x : ℕ) → AreFine es sides → x < length es → (k : Known) × (known_by second (slice_get es x) (slice_get sides x) ≡ Some k)
    by [] sides x f l = absurd (omega arith)
    by (e ∷ es) [] x f l = elim f [ ]
    by (e ∷ es) (side ∷ sides) zero f l = (known second e side, refl)
    by (e ∷ es) (side ∷ sides) (suc x) f l = by es sides x f.1 (omega arith)

-- the sides of elements are fine
pub fine_sides : (first second : Declarations) (sides : List Side) → AreSides first second sides → AreFine first.elements sides
fine_sides first second sides S = by first.elements sides S
  where
    by : (es : List Element) (sides : List Side) → FitSides first second es sides → AreFine es sides
    by [] [] f = tt
    by [] (side ∷ sides) f = elim f [ ]
    by (e ∷ es) [] f = elim f [ ]
    by (e ∷ es) (side ∷ sides) f = ((pairs_ascend first e.1 (content_in second e.0) side.pairs (f.0).pairs, (f.0).few), by es sides f.1)

-- ---- both

module _ (first second : Declarations) (sides : List Side) (cap : ℕ) (small : cap ≤ 100000) (S : AreFine first.elements sides) where
  abbrev P : Plan
  P = plan_of first second sides cap

  abbrev c : ℕ
  c = length first.elements

  copy_starts : (x : ℕ) → c ≤ x → x < c + c → 0 < states_of_copy (known_of first second sides x)
  copy_starts x l h =
      let t = known_there first second sides (x - c) S (omega arith) in
      subst (λ (o : Option Known). 0 < states_of_copy o) (sym t.1) (omega arith)

  starts : (x : ℕ) → x < c + c → 0 < P.states x
  starts x h =
      on_test (λ b. 0 < cond b (own_states (slice_get first.elements x)) (states_of_copy (known_of first second sides x))) (is_own first second sides x)
      (λ t. some_states first.elements x (ltb-true x c t)) (λ t. copy_starts x (ltb-false x c t) h)

  copy_accepting : (x i : ℕ) (o : Option Known) → c ≤ x → known_of first second sides x ≡ o → copy_accepts_at o i ≡ true → (x < c + c) × (i < states_of_copy o)
  copy_accepting x i None l q h = absurd (true≢false (sym h))
  copy_accepting x i (Some k) l q h =
      let w = known_within first second sides (x - c) k q in
      (omega (arith, w), accepts_below first k i (kind_in k i) (numbered (states k.content) k.pairs i) h)

  accepting : (x i : ℕ) → IsTrue (P.numbers.accepts x i) → IsState P x i
  accepting x i h =
      on_test (λ b. cond b (own_accepts (slice_get first.elements x) i) (copy_accepts_at (known_of first second sides x) i) ≡ true
      → (x < c + c) × (i < cond b (own_states (slice_get first.elements x)) (states_of_copy (known_of first second sides x)))) (is_own first second sides x)
      (λ t h. (omega (arith, let l : x < c = ltb-true x c t in l), own_accept_in (slice_get first.elements x) i h))
      (λ t h. copy_accepting x i (known_of first second sides x) (ltb-false x c t) refl h) h

  copy_stepping : (x i : ℕ) (o : Option Known) (step : Step) → c ≤ x → known_of first second sides x ≡ o → Contains (steps_of_copy first o i) step
      → (x < c + c) × (i < states_of_copy o) × (step.1 < states_of_copy o) × IsOn (c + c) step.0
  copy_stepping x i None step l q h = elim (to_member {A = Step} [] step h) [ ]
  copy_stepping x i (Some k) step l q h =
      let w = known_within first second sides (x - c) k q in
      let m = to_member (kind_steps first k c (kind_in k i)) step h in
      let t = kind_steps_in first k (kind_in k i) step m in
      (omega (arith, w), steps_below first k i (kind_in k i) step (numbered (states k.content) k.pairs i) m, t.0, t.1)

  stepping : (x i : ℕ) (step : Step) → Contains (P.numbers.steps x i) step
      → (x < c + c) × (i < P.states x) × (step.1 < P.states x) × IsOn (c + c) step.0
  stepping x i step h =
      on_test (λ b. Contains (cond b (own_steps first (slice_get first.elements x) i) (steps_of_copy first (known_of first second sides x) i)) step
      → (x < c + c) × (i < cond b (own_states (slice_get first.elements x)) (states_of_copy (known_of first second sides x)))
      × (step.1 < cond b (own_states (slice_get first.elements x)) (states_of_copy (known_of first second sides x))) × IsOn (c + c) step.0) (is_own first second sides x)
      (λ t h. let w = own_step_in first (slice_get first.elements x) i step h in (omega (arith, let l : x < c = ltb-true x c t in l), w.0, w.1, w.2))
      (λ t h. copy_stepping x i (known_of first second sides x) step (ltb-false x c t) refl h) h

  pub stays_within : IsPlan (plan_of first second sides cap)
  stays_within = record {
    cap = small;
    starts = starts;
    positive = λ e h. omega arith;
    light = λ e h. omega arith;
    accepting = accepting;
    stepping = λ e i step h. let t = stepping e i step h in (t.0, t.1);
    within = λ e i step h. let t = stepping e i step h in (t.2, t.3);
  }
