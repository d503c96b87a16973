-- Each step of what a copy's state stands for is one of the copy, but on elements that are not declared.
use Rattle.std.proofs.Common.{◌≡◌, ◌<◌, ◌+◌, ℕ, ◌⊎◌, inl, inr, List, length, Option, Some, None, slice_get, refl, sym, ap, ◌∙◌, subst, arith}
use Rattle.std.specs.Option.{option_map}
use Rattle.content_models.specs.declared.content.Content.{Content}
use Rattle.content_models.specs.Model.{Chars}
use Rattle.position_automata.specs.Automata.{FollowsOn, states}
use Rattle.position_automata.specs.Stepping.{step_on}
use Rattle.position_automata.proofs.Stepping.{are_within, on_to, on_from}
use Rattle.position_automata.proofs.Words.{Member, mapped}
use Rattle.decl_set.specs.Asked.{IsKept}
use Rattle.decl_set.specs.Children.{child_step}
use Rattle.decl_set.specs.Declarations.{Declarations, content_in}
use Rattle.decl_set.specs.Steps.{steps_in}
use Rattle.decl_set.proofs.Found.{element_is}
use Rattle.tree_costs.specs.Leasts.{place_of}
use Rattle.tree_costs.specs.Numbered.{IsDead}
use Rattle.tree_costs.proofs.Places.{has_place}
use Rattle.tree_costs.proofs.Steps.{steps_from}
use Rattle.least_trees.specs.Plans.{Step}
use Rattle.exact_tables.specs.Families.{IsListed}
use Rattle.exact_tables.specs.Comparing.{Elem, Plain, Copy, State, Moves, MovesBoth, MovesAlone, IsOdd, step, comparison}
use Rattle.exact_tables.specs.Comparing as to
use Rattle.comparison_tables.specs.declared.kinds.Kind.{Kind}
use Rattle.comparison_tables.specs.declared.kinds.Kind.TheVariants as kind
use Rattle.comparison_tables.specs.declared.sides.Side.{Side}
use Rattle.comparison_tables.specs.Kinds.{go_number, wrong_number, pair_number}
use Rattle.comparison_tables.specs.Sides.{ArePairsOf, Known}
use Rattle.comparison_tables.specs.Copies.{to_go, to_copy, to_wrong, to_listed, to_either, to_other, to_odd, pair_step, wrong_steps, start_steps, kind_steps}
use Rattle.comparison_tables.specs.Standing.{label, meaning}
use Rattle.comparison_tables.proofs.Knowing.{Knows, listed_place}
use Rattle.comparison_tables.proofs.Lists.{member_flat}
use Rattle.comparison_tables.proofs.Moving.{label_own, label_copy, at_state, go_state, wrong_state, pair_state}
use Rattle.comparison_tables.proofs.Undeclared.{is_dead}

module _ (first second : Declarations) (sides : List Side) (cap : ℕ) (ks : IsKept second) (e : Chars) (k : Known) (K : Knows first second e k) where
  abbrev n : ℕ
  n = length first.elements

  abbrev a : Content
  a = k.content

  abbrev stands : ℕ → State
  stands t = at_state first second sides e k K t

  -- a step of these that stands for one on v to w
  abbrev Found : List Step → Elem → State → Type 0
  Found steps v w = (y : ℕ) × (t : ℕ) × Member {A = Step} (Some y, t) steps × (label first second sides y ≡ v) × (stands t ≡ w)

  abbrev Back : Kind → Elem → State → Type 0
  Back kd v w = Found (kind_steps first k n kd) v w ⊎ IsDead (comparison first second cap) v

  -- the step of the first's content
  abbrev Step1 : ℕ → Chars → ℕ → ℕ → Type 0
  Step1 i on j x = Member {A = Chars × ℕ} (on, j) (steps_in first a i) × (place_of first on ≡ Some x) × (j < states a)

  -- by whether the name is declared
  by_name : (X : Type 0) (i : ℕ) (on : Chars) (j : ℕ) → FollowsOn a i on j → ((x : ℕ) → Step1 i on j x → X) → (content_in first on ≡ None → X) → X
  by_name X i on j f some none = by (content_in first on) refl
    where
      by : (o : Option Content) → content_in first on ≡ o → X
      by None q = none q
      by (Some b) q = let t = has_place first on b q in some t.0 (steps_from first a i j on b q f, t.1, (are_within a).after i j on f)

  own_follows : (i : ℕ) (on : Chars) (j : ℕ) → Moves first second e i on j → FollowsOn a i on j
  own_follows i on j h =
      let there : Some h.0 ≡ Some a = sym h.1 ∙ K.content in
      let same : h.0 ≡ a = cc in
      subst (λ (z : Content). FollowsOn z i on j) same h.2

  -- ---- the step for P, in whatever list it stands

  go_found : (steps : List Step) (on : Chars) (j x : ℕ) → place_of first on ≡ Some x → j < states a → Member {A = Step} (to_go (child_step first (on, j))) steps → Found steps (Plain on) (to.Go j)
  go_found steps on j x p l m =
      (x, go_number j, subst (λ (o : Option ℕ). Member {A = Step} (o, go_number j) steps) p m, label_own first second sides on x p, go_state first second sides e k K j l)

  copy_found : (steps : List Step) (on : Chars) (j x : ℕ) → place_of first on ≡ Some x → j < states a → Member {A = Step} (to_copy n (child_step first (on, j))) steps → Found steps (Copy on) (to.Go j)
  copy_found steps on j x p l m =
      (n + x, go_number j, subst (λ (o : Option ℕ). Member {A = Step} (option_map (λ z. n + z) o, go_number j) steps) p m, label_copy first second sides on x p, go_state first second sides e k K j l)

  wrong_found : (steps : List Step) (on : Chars) (j x : ℕ) → place_of first on ≡ Some x → j < states a → Member {A = Step} (to_wrong (states a) (child_step first (on, j))) steps
      → Found steps (Plain on) (to.Fs j)
  wrong_found steps on j x p l m = (
    x,
    wrong_number (states a) j,
    subst (λ (o : Option ℕ). Member {A = Step} (o, wrong_number (states a) j) steps) p m,
    label_own first second sides on x p,
    wrong_state first second sides e k K j l,
  )

  pair_found : (steps : List Step) (on : Chars) (j l at x : ℕ) → place_of first on ≡ Some x → slice_get k.pairs at ≡ Some (j, l)
      → Member {A = Step} (to_listed (states a) (child_step first (on, j)) (Some at)) steps → Found steps (Plain on) (to.Gs j l)
  pair_found steps on j l at x p q m = (
    x,
    pair_number (states a) at,
    subst (λ (o : Option ℕ). Member {A = Step} (o, pair_number (states a) at) steps) p m,
    label_own first second sides on x p,
    pair_state first second sides e k K at j l q,
  )

  -- ---- the step of a pair

  both_found : (steps : List Step) (i j : ℕ) (on : Chars) (r l x : ℕ) → place_of first on ≡ Some x → MovesBoth first second e i j on r l
      → Member {A = Step} (pair_step first k j (on, r)) steps → Found steps (Plain on) (to.Gs r l)
  both_found steps i j on r l x p h m =
      let b = h.1 in
      let o : k.other ≡ Some b = sym K.other ∙ h.3 in
      let there : Some h.0 ≡ Some a = sym h.2 ∙ K.content in
      let same : h.0 ≡ a = cc in
      let listed : IsListed first a b r l = subst (λ (z : Content). IsListed first z b r l) same h.7 in
      let t = listed_place first a b k.pairs r l (subst (λ (z : Option Content). ArePairsOf first a z k.pairs) o K.pairs) listed in
      let on_b : step_on b j on ≡ Some l = on_from b j l on (element_is second e b ks h.3).deterministic h.5 in
      let c = child_step first (on, r) in
      let is : pair_step first k j (on, r) ≡ to_listed (states a) c (Some t.0) =
      ap (λ z. to_other k z j on c) o ∙ ap (to_either k c) on_b ∙ ap (to_listed (states a) c) t.1 in
      pair_found steps on r l t.0 x p t.2 (subst (λ (z : Step). Member z steps) is m)

  alone_found : (steps : List Step) (i j : ℕ) (on : Chars) (r x : ℕ) → place_of first on ≡ Some x → r < states a → MovesAlone first second e i j on r
      → Member {A = Step} (pair_step first k j (on, r)) steps → Found steps (Plain on) (to.Go r)
  alone_found steps i j on r x p l h m =
      let b = h.1 in
      let o : k.other ≡ Some b = sym K.other ∙ h.3 in
      let c = child_step first (on, r) in
      let off : step_on b j on ≡ None = by (step_on b j on) refl in
      let is : pair_step first k j (on, r) ≡ to_go c = ap (λ z. to_other k z j on c) o ∙ ap (to_either k c) off in
      go_found steps on r x p l (subst (λ (z : Step). Member z steps) is m)
    where
      by : (q : Option ℕ) → step_on h.1 j on ≡ q → step_on h.1 j on ≡ None
      by None q = q
      by (Some z) q = absurd (h.5 z (follows z q))
        where
          follows : (z : ℕ) → step_on h.1 j on ≡ Some z → FollowsOn h.1 j on z
          follows z q = on_to h.1 j z on q

  both_follows : (i j : ℕ) (on : Chars) (r l : ℕ) → MovesBoth first second e i j on r l → FollowsOn a i on r
  both_follows i j on r l h = own_follows i on r (h.0, h.2, h.4)

  alone_follows : (i j : ℕ) (on : Chars) (r : ℕ) → MovesAlone first second e i j on r → FollowsOn a i on r
  alone_follows i j on r h = own_follows i on r (h.0, h.2, h.4)

  -- ---- where the steps stand

  in_go : (i : ℕ) (on : Chars) (j : ℕ) → Member {A = Chars × ℕ} (on, j) (steps_in first a i) → Member {A = Step} (to_go (child_step first (on, j))) (kind_steps first k n (kind.Go i))
  in_go i on j m = mapped {B = Step} (λ s. to_go (child_step first s)) (steps_in first a i) (on, j) m

  in_pair : (i j : ℕ) (on : Chars) (r : ℕ) → Member {A = Chars × ℕ} (on, r) (steps_in first a i) → Member {A = Step} (pair_step first k j (on, r)) (kind_steps first k n (kind.Pair i j))
  in_pair i j on r m = mapped {B = Step} (pair_step first k j) (steps_in first a i) (on, r) m

  in_wrong : (i : ℕ) (s : Chars × ℕ) (z : Step) → Member s (steps_in first a i) → Member z (wrong_steps first k n s) → Member z (kind_steps first k n (kind.Wrong i))
  in_wrong i s z m h = member_flat (wrong_steps first k n) (steps_in first a i) s z m h

  in_start : (s : Chars × ℕ) (z : Step) → Member s (steps_in first a 0) → Member z (start_steps first k n s) → Member z (kind_steps first k n kind.Start)
  in_start s z m h = member_flat (start_steps first k n) (steps_in first a 0) s z m h

  none : (kd : Kind) (x : Elem) (w : State) → content_in first (to.name x) ≡ None → Back kd x w
  none kd x w q = inr (is_dead first second cap x q)

  odd_step : (on : Chars) (j : ℕ) → IsOdd first second e → to_odd k.odd (child_step first (on, j)) ≡ to_go (child_step first (on, j))
  odd_step on j h = ap (λ b. to_odd b (child_step first (on, j))) (K.odd ∙ h)

  pub back : (kd : Kind) (v : Elem) (w : State) → step first second (Copy e) (meaning (states a) kd) v w → Back kd v w
  back (kind.Go i) (Plain on) (to.Go j) h =
      by_name (Back (kind.Go i) (Plain on) (to.Go j)) i on j (own_follows i on j h)
      (λ x t. inl (go_found (kind_steps first k n (kind.Go i)) on j x t.1 t.2 (in_go i on j t.0))) (none (kind.Go i) (Plain on) (to.Go j))
  back (kind.Wrong i) (Copy on) (to.Go j) h =
      by_name (Back (kind.Wrong i) (Copy on) (to.Go j)) i on j (own_follows i on j h)
      (λ x t. inl (copy_found (kind_steps first k n (kind.Wrong i)) on j x t.1 t.2 (in_wrong i (on, j) (to_copy n (child_step first (on, j))) t.0 (inl refl))))
      (none (kind.Wrong i) (Copy on) (to.Go j))
  back (kind.Wrong i) (Plain on) (to.Fs j) h =
      by_name (Back (kind.Wrong i) (Plain on) (to.Fs j)) i on j (own_follows i on j h)
      (λ x t. inl (wrong_found (kind_steps first k n (kind.Wrong i)) on j x t.1 t.2 (in_wrong i (on, j) (to_wrong (states a) (child_step first (on, j))) t.0 (inr (inl refl)))))
      (none (kind.Wrong i) (Plain on) (to.Fs j))
  back (kind.Pair i j) (Plain on) (to.Gs r l) h =
      by_name (Back (kind.Pair i j) (Plain on) (to.Gs r l)) i on r (both_follows i j on r l h)
      (λ x t. inl (both_found (kind_steps first k n (kind.Pair i j)) i j on r l x t.1 h (in_pair i j on r t.0))) (none (kind.Pair i j) (Plain on) (to.Gs r l))
  back (kind.Pair i j) (Plain on) (to.Go r) h =
      by_name (Back (kind.Pair i j) (Plain on) (to.Go r)) i on r (alone_follows i j on r h)
      (λ x t. inl (alone_found (kind_steps first k n (kind.Pair i j)) i j on r x t.1 t.2 h (in_pair i j on r t.0))) (none (kind.Pair i j) (Plain on) (to.Go r))
  back kind.Start (Copy on) (to.Go j) h =
      by_name (Back kind.Start (Copy on) (to.Go j)) 0 on j (own_follows 0 on j h)
      (λ x t. inl (copy_found (kind_steps first k n kind.Start) on j x t.1 t.2 (in_start (on, j) (to_copy n (child_step first (on, j))) t.0 (inl refl))))
      (none kind.Start (Copy on) (to.Go j))
  back kind.Start (Plain on) (to.Fs j) h =
      by_name (Back kind.Start (Plain on) (to.Fs j)) 0 on j (own_follows 0 on j h)
      (λ x t. inl (wrong_found (kind_steps first k n kind.Start) on j x t.1 t.2 (in_start (on, j) (to_wrong (states a) (child_step first (on, j))) t.0 (inr (inl refl)))))
      (none kind.Start (Plain on) (to.Fs j))
  back kind.Start (Plain on) (to.Gs r l) h =
      by_name (Back kind.Start (Plain on) (to.Gs r l)) 0 on r (both_follows 0 0 on r l h)
      (λ x t. inl (both_found (kind_steps first k n kind.Start) 0 0 on r l x t.1 h (in_start (on, r) (pair_step first k 0 (on, r)) t.0 (inr (inr (inl refl))))))
      (none kind.Start (Plain on) (to.Gs r l))
  back kind.Start (Plain on) (to.Go r) (inl h) =
      by_name (Back kind.Start (Plain on) (to.Go r)) 0 on r (alone_follows 0 0 on r h)
      (λ x t. inl (alone_found (kind_steps first k n kind.Start) 0 0 on r x t.1 t.2 h (in_start (on, r) (pair_step first k 0 (on, r)) t.0 (inr (inr (inl refl))))))
      (none kind.Start (Plain on) (to.Go r))
  back kind.Start (Plain on) (to.Go r) (inr h) =
      by_name (Back kind.Start (Plain on) (to.Go r)) 0 on r (own_follows 0 on r h.1)
      (λ x t. inl (go_found (kind_steps first k n kind.Start) on r x t.1 t.2
      (in_start (on, r) (to_go (child_step first (on, r))) t.0 (inr (inr (inr (inl (sym (odd_step on r h.0)))))))))
      (none kind.Start (Plain on) (to.Go r))
  back kind.Beyond (Copy on) (to.Go j) h = absurd (let l = (are_within a).before (states a) j on (own_follows (states a) on j h) in omega (arith, l))
  back kind.Beyond (Plain on) (to.Fs j) h = absurd (let l = (are_within a).before (states a) j on (own_follows (states a) on j h) in omega (arith, l))
  back kd v w h = elim h [ ]
