-- The numbers of a comparison's plan stand for its graph.
use Rattle.std.proofs.Common.{◌≡◌, ◌-◌, ℕ, ◌⊎◌, inl, inr, List, [], length, map, true, false, cond, Option, Some, None, slice_get, Contains, refl, sym, ap, ◌∙◌, subst, true≢false}
use Rattle.std.specs.Prelude.{◌↔◌}
use Rattle.attribute_types.proofs.TextTests.{on_test}
use Rattle.content_models.specs.declared.content.Content.{Content}
use Rattle.position_automata.specs.Automata.{FollowsOn, Accepts, states}
use Rattle.position_automata.proofs.Meaning.{to_member, contains_of}
use Rattle.position_automata.proofs.Stepping.{accepts_by_test}
use Rattle.position_automata.proofs.Words.{Member, mapped, unmapped}
use Rattle.decl_set.specs.Asked.{IsKept}
use Rattle.decl_set.specs.Children.{child_step}
use Rattle.decl_set.specs.Declarations.{Declarations, Element, content_in}
use Rattle.decl_set.specs.Steps.{steps_in}
use Rattle.decl_set.proofs.Found.{element_is}
use Rattle.tree_costs.specs.Graphs.{Graph}
use Rattle.tree_costs.specs.Leasts.{place_of}
use Rattle.tree_costs.specs.Numbered.{IsDead, IsStuck, StandsFor, graph_of}
use Rattle.tree_costs.proofs.Places.{has_place, is_at}
use Rattle.tree_costs.proofs.Steps.{follows_in, steps_from}
use Rattle.least_trees.specs.Plans.{Step}
use Rattle.exact_tables.specs.Comparing.{Elem, Plain, Copy, name, State, Ends, Moves, start, accepts, step, comparison}
use Rattle.exact_tables.specs.Comparing as to
use Rattle.comparison_tables.specs.declared.sides.Side.{Side}
use Rattle.comparison_tables.specs.Sides.{AreSides, Known, known, known_at}
use Rattle.comparison_tables.specs.Copies.{kind_in, copy_accepts, copy_steps}
use Rattle.comparison_tables.specs.Plans.{own_accepts, own_steps, copy_accepts_at, steps_of_copy, is_own, known_of, numbers_of}
use Rattle.comparison_tables.specs.Standing.{name_in, label, state, copy_state, meaning, number, state_number}
use Rattle.comparison_tables.proofs.Ending.{kind_ends}
use Rattle.comparison_tables.proofs.Kinded.{numbered}
use Rattle.comparison_tables.proofs.Knowing.{either_stands, is_known, none_known}
use Rattle.comparison_tables.proofs.Moving.{label_own, forth}
use Rattle.comparison_tables.proofs.Numbering.{named, named_states, numberless_is_dead, numberless_is_stuck}
use Rattle.comparison_tables.proofs.Returning.{back as copy_back}
use Rattle.comparison_tables.proofs.Undeclared.{is_dead, step_declared, end_declared, not_declared}

module _ (first second : Declarations) (sides : List Side) (cap : ℕ) (kf : IsKept first) (ks : IsKept second) (S : AreSides first second sides) where
  abbrev n : ℕ
  n = length first.elements

  abbrev N : Graph ℕ ℕ
  N = graph_of (numbers_of first second sides cap)

  abbrev G : Graph Elem State
  G = comparison first second cap

  abbrev L : ℕ → Elem
  L x = label first second sides x

  abbrev Z : ℕ → ℕ → State
  Z x t = state first second sides x t

  -- nothing is declared under no name
  pub unnamed : content_in first [] ≡ None
  unnamed = by (content_in first []) refl
    where
      by : (o : Option Content) → content_in first [] ≡ o → content_in first [] ≡ None
      by None q = q
      by (Some a) q = absurd (true≢false (sym (element_is first [] a kf q).named))

  -- ---- an element itself

  declared : (x : ℕ) (e : Element) → slice_get first.elements x ≡ Some e → content_in first e.0 ≡ Some e.1
  declared x e h = (is_at first kf x e h).0

  own_ends : (o : Option Element) (i : ℕ) → ((e : Element) → o ≡ Some e → content_in first e.0 ≡ Some e.1)
      → (own_accepts o i ≡ true) ↔ Ends first second (name_in o) i
  own_ends None i d = ((λ h. absurd (true≢false (sym h))), (λ h. absurd (not_declared first second [] unnamed (h.0, h.1))))
  own_ends (Some e) i d = (
    (λ h. (e.1, d e refl, (accepts_by_test e.1 i).0 h)),
    (λ h.
        let there : Some e.1 ≡ Some h.0 = sym (d e refl) ∙ h.1 in
        let same : e.1 ≡ h.0 = cc in
        (accepts_by_test e.1 i).1 (subst (λ (a : Content). Accepts a i) (sym same) h.2)),
  )

  own_forth : (o : Option Element) (i y t : ℕ) → ((e : Element) → o ≡ Some e → content_in first e.0 ≡ Some e.1) → Contains (own_steps first o i) (Some y, t)
      → step first second (Plain (name_in o)) (to.Go i) (L y) (to.Go t)
  own_forth None i y t d h = elim (to_member (map (child_step first) []) (Some y, t) h) [ ]
  own_forth (Some e) i y t d h =
      let m = unmapped {B = Step} (child_step first) (steps_in first e.1 i) (Some y, t) (to_member (map (child_step first) (steps_in first e.1 i)) (Some y, t) h) in
      let p : place_of first m.0.0 ≡ Some y = sym (ap (λ z. z.0) m.2) in
      let r : m.0.1 ≡ t = sym (ap (λ z. z.1) m.2) in
      subst (λ (v : Elem). step first second (Plain e.0) (to.Go i) v (to.Go t)) (sym (label_own first second sides m.0.0 y p))
      (subst (λ (j : ℕ). step first second (Plain e.0) (to.Go i) (Plain m.0.0) (to.Go j)) r (e.1, d e refl, follows_in first e.1 i m.0.1 m.0.0 m.1))

  OwnBack : Option Element → ℕ → Elem → State → Type 0
  OwnBack o i v w = ((y : ℕ) × (t : ℕ) × Contains (own_steps first o i) (Some y, t) × (L y ≡ v) × (to.Go t ≡ w)) ⊎ IsDead G v

  own_back : (o : Option Element) (i : ℕ) (v : Elem) (w : State) → ((e : Element) → o ≡ Some e → content_in first e.0 ≡ Some e.1)
      → step first second (Plain (name_in o)) (to.Go i) v w → OwnBack o i v w
  unfolding OwnBack
  own_back None i v w d h = absurd (not_declared first second [] unnamed (step_declared first second (Plain []) (to.Go i) v w h))
  own_back (Some e) i (Plain on) (to.Go j) d h = by (content_in first on) refl
    where
      by : (q : Option Content) → content_in first on ≡ q → OwnBack (Some e) i (Plain on) (to.Go j)
      by None q = inr (is_dead first second cap (Plain on) q)
      by (Some b) q =
          let there : Some h.0 ≡ Some e.1 = sym h.1 ∙ d e refl in
          let same : h.0 ≡ e.1 = cc in
          let m = steps_from first e.1 i j on b q (subst (λ (a : Content). FollowsOn a i on j) same h.2) in
          let x = has_place first on b q in
          inl (
            x.0,
            j,
            contains_of (map (child_step first) (steps_in first e.1 i)) (Some x.0, j)
                (subst (λ (z : Option ℕ). Member {A = Step} (z, j) (map (child_step first) (steps_in first e.1 i))) x.1
                (mapped {B = Step} (child_step first) (steps_in first e.1 i) (on, j) m)),
            label_own first second sides on x.0 x.1,
            refl,
          )
  own_back (Some e) i v w d h = elim h [ ]

  -- ---- a copy

  -- by what stands at its place
  abbrev of_copy : ℕ → Elem
  of_copy x = Copy (name_in (slice_get first.elements x))

  copy_ends : (x t : ℕ) → (copy_accepts_at (known_at first second sides x) t ≡ true) ↔ accepts first second (of_copy x) (copy_state (known_at first second sides x) t)
  copy_ends x t = elim (either_stands first second sides kf S x) [
    | inl s ↦
        let k = known second s.element s.side in
        subst (λ (o : Option Known). (copy_accepts_at o t ≡ true) ↔ accepts first second (of_copy x) (copy_state o t)) (sym (is_known first second sides kf S x s))
        (subst (λ (o : Option Element). (copy_accepts k t ≡ true) ↔ accepts first second (Copy (name_in o)) (meaning (states k.content) (kind_in k t))) (sym s.there)
        (kind_ends first second s.element.0 k s.knows t (kind_in k t) (numbered (states k.content) k.pairs t)))
    | inr q ↦
        subst (λ (o : Option Known). (copy_accepts_at o t ≡ true) ↔ accepts first second (of_copy x) (copy_state o t)) (sym (none_known first second sides kf S x q))
        (subst (λ (o : Option Element). (false ≡ true) ↔ accepts first second (Copy (name_in o)) to.Start) (sym q)
        ((λ h. absurd (true≢false (sym h))), (λ h. absurd (not_declared first second [] unnamed (end_declared first second (Copy []) to.Start h)))))
  ]

  copy_forth : (x t y u : ℕ) → Contains (steps_of_copy first (known_at first second sides x) t) (Some y, u)
      → step first second (of_copy x) (copy_state (known_at first second sides x) t) (L y) (copy_state (known_at first second sides x) u)
  copy_forth x t y u = elim (either_stands first second sides kf S x) [
    | inl s ↦
        let k = known second s.element s.side in
        subst (λ (o : Option Known). Contains (steps_of_copy first o t) (Some y, u) → step first second (of_copy x) (copy_state o t) (L y) (copy_state o u))
        (sym (is_known first second sides kf S x s))
        (subst (λ (o : Option Element). Contains (copy_steps first k n t) (Some y, u)
        → step first second (Copy (name_in o)) (meaning (states k.content) (kind_in k t)) (L y) (meaning (states k.content) (kind_in k u))) (sym s.there)
        (λ h. forth first second sides s.element.0 k s.knows t (kind_in k t) y u (numbered (states k.content) k.pairs t) (to_member (copy_steps first k n t) (Some y, u) h)))
    | inr q ↦
        subst (λ (o : Option Known). Contains (steps_of_copy first o t) (Some y, u) → step first second (of_copy x) (copy_state o t) (L y) (copy_state o u))
        (sym (none_known first second sides kf S x q)) (λ h. elim (to_member {A = Step} [] (Some y, u) h) [ ])
  ]

  abbrev CopyBack : Option Known → ℕ → Elem → State → Type 0
  CopyBack o t v w = ((y : ℕ) × (u : ℕ) × Contains (steps_of_copy first o t) (Some y, u) × (L y ≡ v) × (copy_state o u ≡ w)) ⊎ IsDead G v

  back_of_copy : (x t : ℕ) (v : Elem) (w : State) → step first second (of_copy x) (copy_state (known_at first second sides x) t) v w
      → CopyBack (known_at first second sides x) t v w
  back_of_copy x t v w = elim (either_stands first second sides kf S x) [
    | inl s ↦
        let k = known second s.element s.side in
        subst (λ (o : Option Known). step first second (of_copy x) (copy_state o t) v w → CopyBack o t v w) (sym (is_known first second sides kf S x s))
        (subst (λ (o : Option Element). step first second (Copy (name_in o)) (meaning (states k.content) (kind_in k t)) v w → CopyBack (Some k) t v w) (sym s.there)
        (λ h. elim (copy_back first second sides cap ks s.element.0 k s.knows (kind_in k t) v w h) [
          | inl f ↦ inl (f.0, f.1, contains_of (copy_steps first k n t) (Some f.0, f.1) f.2, f.3, f.4)
          | inr d ↦ inr d
        ]))
    | inr q ↦
        subst (λ (o : Option Known). step first second (of_copy x) (copy_state o t) v w → CopyBack o t v w) (sym (none_known first second sides kf S x q))
        (subst (λ (o : Option Element). step first second (Copy (name_in o)) to.Start v w → CopyBack None t v w) (sym q)
        (λ h. absurd (not_declared first second [] unnamed (step_declared first second (Copy []) to.Start v w h))))
  ]

  -- ---- both

  starts : (x : ℕ) → Z x 0 ≡ start (L x)
  starts x =
      on_test (λ b. cond b (to.Go 0) (copy_state (known_of first second sides x) 0) ≡ start (cond b (Plain (name_in (slice_get first.elements x))) (of_copy (x - n))))
      (is_own first second sides x) (λ t. refl) (λ t. copy_starts (known_of first second sides x))
    where
      copy_starts : (o : Option Known) → copy_state o 0 ≡ to.Start
      copy_starts None = refl
      copy_starts (Some k) = refl

  ends : (x t : ℕ) → N.accepts x t ↔ G.accepts (L x) (Z x t)
  ends x t =
      on_test (λ b. (cond b (own_accepts (slice_get first.elements x) t) (copy_accepts_at (known_of first second sides x) t) ≡ true)
      ↔ accepts first second (cond b (Plain (name_in (slice_get first.elements x))) (of_copy (x - n))) (cond b (to.Go t) (copy_state (known_of first second sides x) t)))
      (is_own first second sides x) (λ q. own_ends (slice_get first.elements x) t (declared x)) (λ q. copy_ends (x - n) t)

  steps : (x t y u : ℕ) → N.step x t y u → G.step (L x) (Z x t) (L y) (Z x u)
  steps x t y u =
      on_test (λ b. Contains (cond b (own_steps first (slice_get first.elements x) t) (steps_of_copy first (known_of first second sides x) t)) (Some y, u)
      → step first second (cond b (Plain (name_in (slice_get first.elements x))) (of_copy (x - n))) (cond b (to.Go t) (copy_state (known_of first second sides x) t)) (L y)
      (cond b (to.Go u) (copy_state (known_of first second sides x) u)))
      (is_own first second sides x) (λ q. own_forth (slice_get first.elements x) t y u (declared x)) (λ q. copy_forth (x - n) t y u)

  back : (x t : ℕ) (v : Elem) (w : State) → G.step (L x) (Z x t) v w → ((y : ℕ) × (u : ℕ) × N.step x t y u × (L y ≡ v) × (Z x u ≡ w)) ⊎ IsDead G v
  unfolding OwnBack
  back x t v w =
      on_test (λ b. step first second (cond b (Plain (name_in (slice_get first.elements x))) (of_copy (x - n))) (cond b (to.Go t) (copy_state (known_of first second sides x) t)) v w
      → ((y : ℕ) × (u : ℕ) × Contains (cond b (own_steps first (slice_get first.elements x) t) (steps_of_copy first (known_of first second sides x) t)) (Some y, u) × (L y ≡ v)
      × (cond b (to.Go u) (copy_state (known_of first second sides x) u) ≡ w)) ⊎ IsDead G v)
      (is_own first second sides x) (λ q. own_back (slice_get first.elements x) t v w (declared x)) (λ q. back_of_copy (x - n) t v w)

  pub stands_for : StandsFor N G (label first second sides) (state first second sides)
  stands_for = record { cap = refl; weight = λ x. refl; start = starts; ends = ends; steps = steps; back = back; elements = elements; states = states_of }
    where
      elements : (v : Elem) → ((x : ℕ) × (label first second sides x ≡ v)) ⊎ IsDead G v
      elements v = by (number first second sides v) refl
        where
          by : (o : Option ℕ) → number first second sides v ≡ o → ((x : ℕ) × (label first second sides x ≡ v)) ⊎ IsDead G v
          by None q = inr (numberless_is_dead first second sides kf S cap v q)
          by (Some x) q = inl (x, named first second sides kf S v x q)

      states_of : (v : Elem) (w : State) → ((x : ℕ) × (t : ℕ) × (label first second sides x ≡ v) × (state first second sides x t ≡ w)) ⊎ IsStuck G v w
      states_of v w = by (state_number first second sides v w) refl
        where
          by : (o : Option (ℕ × ℕ)) → state_number first second sides v w ≡ o
              → ((x : ℕ) × (t : ℕ) × (label first second sides x ≡ v) × (state first second sides x t ≡ w)) ⊎ IsStuck G v w
          by None q = inr (numberless_is_stuck first second sides kf S cap v w q)
          by (Some x) q = let t = named_states first second sides kf S v w x.0 x.1 q in inl (x.0, x.1, t.0, t.1)
