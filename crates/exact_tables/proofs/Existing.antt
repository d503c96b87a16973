-- Where costs are numbers up to the cap there are chosen trees.
use Rattle.std.proofs.Common.{◌≡◌, List, [], ◌∷◌, ◌++◌, ℕ, zero, suc, ◌+◌, ◌≤◌, ◌<◌, ◌⊎◌, inl, inr, refl, sym, ap, ◌∙◌, subst, arith, false, Option, Some, None}
use Rattle.std.specs.Prelude.{is_some}
use Rattle.std.proofs.lemmas.Bool.{both_ways}
use Rattle.content_models.specs.declared.content.Content.{Content}
use Rattle.content_models.specs.Model.{Chars}
use Rattle.document_trees.specs.Trees.{Attribute, Items, nothing, element, Node, EachBelow, child_names, elements_in, size}
use Rattle.position_automata.specs.Automata.{FollowsOn}
use Rattle.decl_set.specs.Declarations.{Declarations, content_in, attributes_in}
use Rattle.decl_set.specs.Asked.{IsKept}
use Rattle.decl_set.specs.Validity.{Meets, IsSeparating, HasDocument, Suits}
use Rattle.tree_costs.specs.declared.cost.Cost.{Cost}
use Rattle.tree_costs.specs.declared.cost.Cost.TheVariants.{Fin, Inf}
use Rattle.decl_set.specs.declared.breaks.Odd.{Odd}
use Rattle.decl_set.specs.Oddness.{odd_in}
use Rattle.tree_costs.specs.Beside.{put}
use Rattle.tree_costs.specs.Families.{AreExact}
use Rattle.tree_costs.specs.Costs.{Bounds, AtMost, cut, sum, total, IsSmall}
use Rattle.exact_tables.specs.Families.{total_with, IsListed, IsExact}
use Rattle.position_automata.specs.Runs.{Runs}
use Rattle.position_automata.specs.Stepping.{does_accept, step_on}
use Rattle.decl_set.specs.Steps.{steps_in}
use Rattle.bound_checker.specs.Tabled.{Costs}
use Rattle.bound_checker.specs.Kinds.{Feasible}
use Rattle.attlist_merge.specs.Shown.{required_of}
use Rattle.exact_tables.specs.LeastTrees.{IsFirst}
use Rattle.exact_tables.specs.Chosen.{odd_atts, odd_front, past, AttainsOdd, StopsOdd, OddFrom, AttainsKind11, AttainsKind10, AttainsKind9, AttainsWrong, WrongFrom, IsChosenTop, LeastExists, ChosenExists}
use Rattle.tree_costs.proofs.Costs.{at_most-antisym, bounds-sum, sum-is, below-cut, attained-is}
use Rattle.bound_checker.proofs.Running.{runs-of, derives-of}
use Rattle.decl_set.proofs.Suiting.{met, meets, suited}
use Rattle.bound_checker.proofs.Suiting.{suits_over}
use Rattle.bound_checker.proofs.Sound.{m-bounds, g-bounds, f-bounds}
use Rattle.exact_tables.proofs.Closing.{exact_is_feasible, start_listed, listed-more}
use Rattle.bound_checker.proofs.Stepping.{accept_to, accept_from}
use Rattle.position_automata.proofs.Stepping.{on_to, on_none}
use Rattle.exact_tables.proofs.Built.{parts, fin-same, step_of}
use Rattle.exact_tables.proofs.Growing.{by-bool, same-cost, first-of, between, declared_of, told_step, has_document, least-exists, least_top-exists, one-more, least_tree_exists}
use Rattle.exact_tables.proofs.Unique.{exact_is_own}

by-option : {A : Type 0} (o : Option A) → ((x : A) × (o ≡ Some x)) ⊎ (o ≡ None)
by-option (Some x) = inl (x, refl)
by-option None = inr refl

-- a cost that is at most a sum that bounds the size that it is, is that sum
squeezed : (cap : ℕ) (x s : Cost) (n : ℕ) → AtMost x s → IsSmall cap s → Bounds s n → x ≡ cut cap n → x ≡ s
squeezed cap x s n l i b q = at_most-antisym x s l (subst (AtMost s) (sym q) (below-cut cap s n i b))

module _ (first second : Declarations) (cap : ℕ) (c : Costs) (kf : IsKept first) (ks : IsKept second) (X : IsExact first second cap c) where
  abbrev F : Feasible first second cap c
  F = exact_is_feasible first second cap c kf ks X

  abbrev O : AreExact first cap c.m c.p
  O = exact_is_own first second cap c X

  has_separating : (e : Chars) (n : ℕ) → c.v e ≡ Fin n → HasDocument first e
  has_separating e n q = elim (X.v e).1 [
    | inl z ↦ absurd (let w : Fin n ≡ Inf = sym q ∙ z in cc)
    | inr t ↦ (t.0, t.1.0, t.1.1)
  ]

  -- ---- the path of G

  stops-dec : (e : Chars) (a b : Content) (i j : ℕ) → StopsOdd first second cap c e a b i j ⊎ (StopsOdd first second cap c e a b i j → ⊥)
  stops-dec e a b i j = elim (same-cost (c.g e i j) (Fin 0)) [
    | inr n ↦ inr (λ h. n h.0)
    | inl z ↦ elim (by-bool (does_accept a i)) [
      | inr f ↦ inr (λ h. both_ways (does_accept a i) f (accept_from a i h.1))
      | inl t ↦ elim (by-bool (does_accept b j)) [
        | inl y ↦ inr (λ h. h.2 (accept_to b j y))
        | inr w ↦ inl (z, accept_to a i t, λ h. both_ways (does_accept b j) w (accept_from b j h))
      ]
    ]
  ]

  odd-attained : (e : Chars) (a b : Content) (i j k : ℕ) (x : Chars) (xs : List Chars) → content_in first e ≡ Some a → content_in second e ≡ Some b
      → IsListed first a b i j → HasDocument first x → FollowsOn a i x k → Runs a k xs → (Runs b j (x ∷ xs) → ⊥) → c.g e i j ≡ sum cap (c.m x) (total cap c.m xs)
      → (o : Option ℕ) → step_on b j x ≡ o → c.g e i j ≡ sum cap (c.m x) (past first second cap c e k o)
  odd-attained e a b i j k x xs d s p h f r w z (Some y) q =
      let g = on_to b j y x q in
      between cap (c.g e i j) (c.m x) (c.g e k y) (total cap c.m xs) (F.k6 e x a b i j k y d s f g)
      ((X.g e a b k y d s (listed-more first a b i j k y x p h f g)).0 (total cap c.m xs) (xs, r, (λ t. w (y, g, t)), refl)) z
  odd-attained e a b i j k x xs d s p h f r w z None q =
      between cap (c.g e i j) (c.m x) (c.p e k) (total cap c.m xs) (F.k7 e x a b i j k d s f (λ y t. on_none b j y x q t))
      ((X.p e a k d).0 (total cap c.m xs) (xs, r, refl)) z

  odd-step : (n : ℕ) (e : Chars) (a b : Content) (i j : ℕ) → content_in first e ≡ Some a → content_in second e ≡ Some b → IsListed first a b i j → n ≤ cap → c.g e i j ≡ Fin n
      → (StopsOdd first second cap c e a b i j → ⊥) → (s : Chars × ℕ) × IsFirst (AttainsOdd first second cap c e b i j) s (steps_in first a i)
  odd-step n e a b i j d s p l q nay = elim (X.g e a b i j d s p).1 [
    | inl z ↦ absurd (let w : Fin n ≡ Inf = sym q ∙ z in cc)
    | inr t ↦ go t.0 t.1 t.2 t.3
  ]
    where
      go : (names : List Chars) → Runs a i names → (Runs b j names → ⊥) → c.g e i j ≡ total cap c.m names
          → (s : Chars × ℕ) × IsFirst (AttainsOdd first second cap c e b i j) s (steps_in first a i)
      go [] r w z = absurd (nay (z, r, w))
      go (x ∷ xs) r w z =
          let u = parts cap (c.m x) (total cap c.m xs) n l (sym z ∙ q) in
          let h = has_document first cap c.m c.p kf O x u.0 u.2 in
          let y = declared_of first x h in
          first-of (AttainsOdd first second cap c e b i j) (λ s. same-cost (c.g e i j) (sum cap (c.m s.0) (past first second cap c e s.1 (step_on b j s.0)))) (x, r.0)
          (steps_in first a i) (told_step first a y.0 i r.0 x y.1 r.1)
          (odd-attained e a b i j r.0 x xs d s p h r.1 r.2 w z (step_on b j x) refl)

  odd-exists : (fuel n : ℕ) (e : Chars) (a b : Content) (i j : ℕ) → content_in first e ≡ Some a → content_in second e ≡ Some b → IsListed first a b i j
      → n ≤ cap → n < fuel → c.g e i j ≡ Fin n → (xs : Items) × OddFrom first second cap c e a b i j xs
  odd-exists zero n e a b i j d s p l k q = absurd (omega (arith, k))
  odd-exists (suc fuel) n e a b i j d s p l k q = elim (stops-dec e a b i j) [
    | inl h ↦ (nothing, h)
    | inr nay ↦
        let v = odd-step n e a b i j d s p l q nay in
        let f = step_of first (AttainsOdd first second cap c e b i j) a i v.0.1 v.0.0 v.1 in
        let u = parts cap (c.m v.0.0) (past first second cap c e v.0.1 (step_on b j v.0.0)) n l (sym f.1 ∙ q) in
        let g = u.4 in
        let one = one-more first cap c.m c.p kf O u.0 v.0.0 (omega (arith, g, l)) u.2 in
        let x = least_top-exists first cap c.m c.p kf O u.0 v.0.0 (omega (arith, g, l)) u.2 in
        let atts = required_of (attributes_in first v.0.0) in
        elim (by-option (step_on b j v.0.0)) [
          | inl w ↦
              let m = listed-more first a b i j v.0.1 w.0 v.0.0 p (has_document first cap c.m c.p kf O v.0.0 u.0 u.2) f.0 (on_to b j w.0 v.0.0 w.1) in
              let y = odd-exists fuel u.1 e a b v.0.1 w.0 d s m (omega (arith, g, l)) (omega (arith, g, one, k)) (sym (ap (past first second cap c e v.0.1) w.1) ∙ u.3) in
              (element v.0.0 atts x.0 y.0, (v.0.1, nay, v.1, x.1, inl (w.0, w.1, y.1)))
          | inr w ↦
              let y = least-exists first cap c.m c.p kf O (suc u.1) u.1 e a v.0.1 d (omega (arith, g, l)) (omega arith) (sym (ap (past first second cap c e v.0.1) w) ∙ u.3) in
              (element v.0.0 atts x.0 y.0, (v.0.1, nay, v.1, x.1, inr (w, y.1)))
        ]
  ]

  -- ---- one of the three kinds attains v

  module _ (name : Chars) (atts : List Attribute) (inside : Items) (m : Meets first name atts inside) (h : EachBelow (Meets first) inside)
      (q : c.v name ≡ cut cap (1 + elements_in inside)) where
    not-top : (AttainsKind11 first second cap c name → ⊥) → (AttainsKind10 first second cap c name → ⊥) → (Meets second name atts inside → ⊥)
        → (o : Option Odd) → odd_in first second name ≡ o → ⊥
    not-top n11 n10 w (Some o) z =
        let t = met first name atts inside m in
        n11 (
          ap is_some z,
          squeezed cap (c.v name) (c.m name) (1 + elements_in inside) (F.k11 name t.content t.declared (ap is_some z))
              (attained-is cap (c.m name) (elim (X.m name).1 [ inl y ↦ inl y | inr y ↦ inr (size y.0, y.3) ]))
              (m-bounds first second cap c F name atts inside m h) q,
        )
    not-top n11 n10 w None z =
        let t = met first name atts inside m in
        let s : Suits second name atts inside = suits_over first second name kf ks z atts inside t.suits in
        let b = suited second name atts inside s in
        g-bounds first second cap c F inside name t.content b.0 0 0 t.declared b.1 (runs-of t.content (child_names inside) t.derived)
        (λ r. w (meets second name atts inside b.0 b.1 (derives-of b.0 (child_names inside) r) s)) h
        (λ g. n10 (
          ap is_some b.1,
          squeezed cap (c.v name) (sum cap (Fin 1) (c.g name 0 0)) (1 + elements_in inside) (F.k10 name t.content b.0 t.declared b.1)
              (sum-is cap (Fin 1) (c.g name 0 0)) (bounds-sum cap (Fin 1) (c.g name 0 0) 1 (elements_in inside) (omega arith) g) q,
        ))

    not-split : (Meets second name atts inside → EachBelow (Meets second) inside → ⊥) → (AttainsKind11 first second cap c name → ⊥)
        → (AttainsKind10 first second cap c name → ⊥) → (AttainsKind9 first second cap c name → ⊥) → ⊥
    not-split w n11 n10 n9 =
        let t = met first name atts inside m in
        f-bounds first second cap c F kf ks inside name t.content 0 t.declared (runs-of t.content (child_names inside) t.derived) h
        (λ k. not-top n11 n10 (λ p. w p k) (odd_in first second name) refl)
        (λ f. n9
        (squeezed cap (c.v name) (sum cap (Fin 1) (c.f name 0)) (1 + elements_in inside) (F.k9 name t.content t.declared)
        (sum-is cap (Fin 1) (c.f name 0)) (bounds-sum cap (Fin 1) (c.f name 0) 1 (elements_in inside) (omega arith) f) q))

  not-all : (e : Chars) (node : Node) → IsSeparating first second e node → c.v e ≡ cut cap (size node) → (AttainsKind11 first second cap c e → ⊥)
      → (AttainsKind10 first second cap c e → ⊥) → (AttainsKind9 first second cap c e → ⊥) → ⊥
  not-all e node s q n11 n10 n9 =
      let back = sym s.1.0 in
      not-split node.name node.atts node.items s.1.1.0 s.1.1.1 (subst (λ (x : Chars). c.v x ≡ cut cap (size node)) back q)
      (λ k below. s.2 (s.1.0, (k, below)))
      (subst (λ (x : Chars). AttainsKind11 first second cap c x → ⊥) back n11)
      (subst (λ (x : Chars). AttainsKind10 first second cap c x → ⊥) back n10)
      (subst (λ (x : Chars). AttainsKind9 first second cap c x → ⊥) back n9)

  kind9 : (e : Chars) (n : ℕ) → c.v e ≡ Fin n → (AttainsKind11 first second cap c e → ⊥) → (AttainsKind10 first second cap c e → ⊥) → AttainsKind9 first second cap c e
  kind9 e n q n11 n10 = elim (same-cost (c.v e) (sum cap (Fin 1) (c.f e 0))) [
    | inl z ↦ z
    | inr n9 ↦ elim (X.v e).1 [
      | inl z ↦ absurd (let w : Fin n ≡ Inf = sym q ∙ z in cc)
      | inr t ↦ absurd (not-all e t.0 t.1 t.2 n11 n10 n9)
    ]
  ]

  -- ---- chosen trees

  abbrev pub HasChosen : Chars → Type 0
  HasChosen e = (atts : List Attribute) × (items : Items) × IsChosenTop first second cap c e atts items

  chosen_odd-exists : (n : ℕ) (e : Chars) → n ≤ cap → c.v e ≡ Fin n → AttainsKind11 first second cap c e → (o : Option Odd) → odd_in first second e ≡ o → HasChosen e
  chosen_odd-exists n e l q k None z = absurd (let w : is_some (odd_in first second e) ≡ false = ap is_some z in both_ways (is_some (odd_in first second e)) w k.0)
  chosen_odd-exists n e l q k (Some o) z =
      let x = least_top-exists first cap c.m c.p kf O n e l (sym k.1 ∙ q) in (
        odd_atts o (attributes_in first e),
        put (odd_front first second e o) x.0,
        inl (k, (x.1.0, o, x.0, x.1.1, z, refl, refl, x.1.3)),
      )

  chosen_names-exists : (n : ℕ) (e : Chars) (a : Content) → content_in first e ≡ Some a → n ≤ cap → c.v e ≡ Fin n → (AttainsKind11 first second cap c e → ⊥)
      → AttainsKind10 first second cap c e → (o : Option Content) → content_in second e ≡ o → HasChosen e
  chosen_names-exists n e a d l q nay k None z =
      absurd (let w : is_some (content_in second e) ≡ false = ap is_some z in both_ways (is_some (content_in second e)) w k.0)
  chosen_names-exists n e a d l q nay k (Some b) z =
      let u = parts cap (Fin 1) (c.g e 0 0) n l (sym k.1 ∙ q) in
      let g = u.4 in
      let x = odd-exists (suc u.1) u.1 e a b 0 0 d z (start_listed first a b) (omega (arith, g, l)) (omega arith) u.3 in
      (required_of (attributes_in first e), x.0, inr (nay, inl (k, (a, b, d, z, refl, x.1))))

  kind11-dec : (e : Chars) → AttainsKind11 first second cap c e ⊎ (AttainsKind11 first second cap c e → ⊥)
  kind11-dec e = elim (by-bool (is_some (odd_in first second e))) [
    | inr f ↦ inr (λ h. both_ways (is_some (odd_in first second e)) f h.0)
    | inl t ↦ elim (same-cost (c.v e) (c.m e)) [ inl z ↦ inl (t, z) | inr n ↦ inr (λ h. n h.1) ]
  ]

  kind10-dec : (e : Chars) → AttainsKind10 first second cap c e ⊎ (AttainsKind10 first second cap c e → ⊥)
  kind10-dec e = elim (by-bool (is_some (content_in second e))) [
    | inr f ↦ inr (λ h. both_ways (is_some (content_in second e)) f h.0)
    | inl t ↦ elim (same-cost (c.v e) (sum cap (Fin 1) (c.g e 0 0))) [ inl z ↦ inl (t, z) | inr n ↦ inr (λ h. n h.1) ]
  ]

  -- with what the path of F gives
  chosen-exists : (n : ℕ) (e : Chars) → n ≤ cap → c.v e ≡ Fin n
      → ((a : Content) (j : ℕ) → content_in first e ≡ Some a → n ≡ 1 + j → c.f e 0 ≡ Fin j → (xs : Items) × WrongFrom first second cap c e a 0 xs) → HasChosen e
  chosen-exists n e l q below =
      let a = declared_of first e (has_separating e n q) in
      elim (kind11-dec e) [
        | inl k ↦ chosen_odd-exists n e l q k (odd_in first second e) refl
        | inr n11 ↦ elim (kind10-dec e) [
          | inl k ↦ chosen_names-exists n e a.0 a.1 l q n11 k (content_in second e) refl
          | inr n10 ↦
              let k = kind9 e n q n11 n10 in
              let u = parts cap (Fin 1) (c.f e 0) n l (sym k ∙ q) in
              let one : 1 ≡ u.0 = fin-same 1 u.0 u.2 in
              let g = u.4 in
              let x = below a.0 u.1 a.1 (omega (arith, one, g)) u.3 in
              (required_of (attributes_in first e), x.0, inr (n11, inr (n10, k, (a.0, a.1, refl, x.1))))
        ]
      ]

  wrong-dec : (e : Chars) (i : ℕ) (s : Chars × ℕ) → AttainsWrong first second cap c e i s ⊎ (AttainsWrong first second cap c e i s → ⊥)
  wrong-dec e i s = elim (same-cost (c.f e i) (sum cap (c.v s.0) (c.p e s.1))) [
    | inl z ↦ inl (inl z)
    | inr n ↦ elim (same-cost (c.f e i) (sum cap (c.m s.0) (c.f e s.1))) [
      | inl z ↦ inl (inr z)
      | inr k ↦ inr (λ h. elim h [ inl z ↦ n z | inr z ↦ k z ])
    ]
  ]

  wrong-step : (n : ℕ) (e : Chars) (a : Content) (i : ℕ) → content_in first e ≡ Some a → n ≤ cap → c.f e i ≡ Fin n
      → (s : Chars × ℕ) × IsFirst (AttainsWrong first second cap c e i) s (steps_in first a i)
  wrong-step n e a i d l q = elim (X.f e a i d).1 [
    | inl z ↦ absurd (let w : Fin n ≡ Inf = sym q ∙ z in cc)
    | inr t ↦ go t.0 t.1 t.2 t.3 t.4
  ]
    where
      go : (before : List Chars) (name : Chars) (after : List Chars) → Runs a i (before ++ name ∷ after) → c.f e i ≡ total_with cap c.m c.v before name after
          → (s : Chars × ℕ) × IsFirst (AttainsWrong first second cap c e i) s (steps_in first a i)
      go [] name after r z =
          let u = parts cap (c.v name) (total cap c.m after) n l (sym z ∙ q) in
          let b = declared_of first name (has_separating name u.0 u.2) in
          first-of (AttainsWrong first second cap c e i) (wrong-dec e i) (name, r.0) (steps_in first a i) (told_step first a b.0 i r.0 name b.1 r.1)
          (inl (between cap (c.f e i) (c.v name) (c.p e r.0) (total cap c.m after) (F.k3 e name a i r.0 d r.1) ((X.p e a r.0 d).0 (total cap c.m after) (after, r.2, refl)) z))
      go (x ∷ before) name after r z =
          let rest = total_with cap c.m c.v before name after in
          let u = parts cap (c.m x) rest n l (sym z ∙ q) in
          let b = declared_of first x (has_document first cap c.m c.p kf O x u.0 u.2) in
          first-of (AttainsWrong first second cap c e i) (wrong-dec e i) (x, r.0) (steps_in first a i) (told_step first a b.0 i r.0 x b.1 r.1)
          (inr (between cap (c.f e i) (c.m x) (c.f e r.0) rest (F.k4 e x a i r.0 d r.1) ((X.f e a r.0 d).0 rest (before, name, after, r.2, refl)) z))

  wrong-exists : (fuel n : ℕ) (e : Chars) (a : Content) (i : ℕ) → content_in first e ≡ Some a → n ≤ cap → n < fuel → c.f e i ≡ Fin n
      → (xs : Items) × WrongFrom first second cap c e a i xs
  wrong-exists zero n e a i d l k q = absurd (omega (arith, k))
  wrong-exists (suc fuel) n e a i d l k q =
      let s = wrong-step n e a i d l q in
      let f = step_of first (AttainsWrong first second cap c e i) a i s.0.1 s.0.0 s.1 in
      elim (same-cost (c.f e i) (sum cap (c.v s.0.0) (c.p e s.0.1))) [
        | inl z ↦
            let u = parts cap (c.v s.0.0) (c.p e s.0.1) n l (sym z ∙ q) in
            let g = u.4 in
            let x = chosen-exists u.0 s.0.0 (omega (arith, g, l)) u.2
            (λ b j t w y. wrong-exists fuel j s.0.0 b 0 t (omega (arith, g, w, l)) (omega (arith, g, w, k)) y) in
            let y = least-exists first cap c.m c.p kf O (suc u.1) u.1 e a s.0.1 d (omega (arith, g, l)) (omega arith) u.3 in
            (element s.0.0 x.0 x.1 y.0, (s.0.1, s.1, inl (z, x.2, y.1)))
        | inr nay ↦
            let other : c.f e i ≡ sum cap (c.m s.0.0) (c.f e s.0.1) = elim f.1 [ inl z ↦ absurd (nay z) | inr z ↦ z ] in
            let u = parts cap (c.m s.0.0) (c.f e s.0.1) n l (sym other ∙ q) in
            let g = u.4 in
            let one = one-more first cap c.m c.p kf O u.0 s.0.0 (omega (arith, g, l)) u.2 in
            let x = least_top-exists first cap c.m c.p kf O u.0 s.0.0 (omega (arith, g, l)) u.2 in
            let y = wrong-exists fuel u.1 e a s.0.1 d (omega (arith, g, l)) (omega (arith, g, one, k)) u.3 in
            (element s.0.0 (required_of (attributes_in first s.0.0)) x.0 y.0, (s.0.1, s.1, inr (nay, x.1, y.1)))
      ]

  pub chosen_top-exists : (n : ℕ) (e : Chars) → n ≤ cap → c.v e ≡ Fin n → HasChosen e
  chosen_top-exists n e l q = chosen-exists n e l q (λ a j d w y. wrong-exists (suc j) j e a 0 d (omega (arith, w, l)) (omega arith) y)

pub least_exists : LeastExists
least_exists first second cap c kf ks X = least_tree_exists first cap c.m c.p kf (exact_is_own first second cap c X)

pub chosen_exists : ChosenExists
chosen_exists first second cap c kf ks X e n l q =
    let t = chosen_top-exists first second cap c kf ks X n e l q in
    (record { name = e; atts = t.0; items = t.1 }, (refl, t.2))
