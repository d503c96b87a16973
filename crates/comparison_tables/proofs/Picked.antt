-- The steps of a copy by their places.
use Rattle.std.proofs.Common.{◌≡◌, ◌/◌, ◌%◌, ℕ, zero, suc, inl, inr, List, Option, Some, None, slice_get, refl, sym, ap, ◌∙◌, arith}
use Rattle.std.specs.List.{flat_map}
use Rattle.std.specs.Option.{option_map}
use Rattle.std.proofs.lemmas.Bool.{cases_lt}
use Rattle.content_models.specs.Model.{Chars}
use Rattle.position_automata.specs.Automata.{states}
use Rattle.decl_set.specs.Children.{child_step}
use Rattle.decl_set.specs.Declarations.{Declarations}
use Rattle.least_trees.specs.Plans.{Step}
use Rattle.comparison_tables.specs.Sides.{Known}
use Rattle.comparison_tables.specs.Copies.{to_copy, to_wrong, to_odd, pair_step, wrong_steps, start_steps}
use Rattle.comparison_tables.proofs.Lists.{two_even, two_odd, four_at}

mapped_some : {A B : Type 0} (h : A → B) (o : Option A) (b : B) → Some b ≡ option_map h o → (x : A) × (o ≡ Some x) × (b ≡ h x)
mapped_some h None b q = absurd (let z : Some b ≡ None = q in cc)
mapped_some h (Some x) b q = (x, refl, (let z : Some b ≡ Some (h x) = q in cc))

mapped_none : {A B : Type 0} (h : A → B) (o : Option A) → None ≡ option_map h o → o ≡ None
mapped_none h None q = refl
mapped_none h (Some x) q = absurd (let z : None ≡ Some (h x) = q in cc)

module _ (first : Declarations) (k : Known) (count : ℕ) (xs : List (Chars × ℕ)) (at : ℕ) where
  abbrev of_child : Chars × ℕ → Step
  of_child s = child_step first s

  abbrev copied : Chars × ℕ → Step
  copied s = to_copy count (child_step first s)

  abbrev wronged : Chars × ℕ → Step
  wronged s = to_wrong (states k.content) (child_step first s)

  abbrev paired : Chars × ℕ → Step
  paired s = pair_step first k 0 s

  abbrev odded : Chars × ℕ → Step
  odded s = to_odd k.odd (child_step first s)

  -- ---- two for each

  pub wrong_even : (step r : Step) → Some step ≡ option_map of_child (slice_get xs (at / 2)) → at % 2 ≡ 0 → r ≡ to_copy count step
      → Some r ≡ slice_get (flat_map (wrong_steps first k count) xs) at
  wrong_even step r h e q =
      let t = mapped_some of_child (slice_get xs (at / 2)) step h in
      ap (λ z. Some z) (q ∙ ap (to_copy count) t.2) ∙ sym (two_even copied wronged xs (at / 2) at (omega (arith, e)) ∙ ap (option_map copied) t.1)

  pub wrong_odd : (step r : Step) → Some step ≡ option_map of_child (slice_get xs (at / 2)) → (at % 2 ≡ 0 → ⊥) → r ≡ to_wrong (states k.content) step
      → Some r ≡ slice_get (flat_map (wrong_steps first k count) xs) at
  wrong_odd step r h e q =
      let t = mapped_some of_child (slice_get xs (at / 2)) step h in
      let one : at % 2 ≡ 1 = by (at % 2) refl in
      ap (λ z. Some z) (q ∙ ap (to_wrong (states k.content)) t.2) ∙ sym (two_odd copied wronged xs (at / 2) at (omega (arith, one)) ∙ ap (option_map wronged) t.1)
    where
      by : (n : ℕ) → at % 2 ≡ n → at % 2 ≡ 1
      by zero q = absurd (e q)
      by (suc n) q = omega arith

  pub wrong_none : None ≡ option_map of_child (slice_get xs (at / 2)) → None ≡ slice_get (flat_map (wrong_steps first k count) xs) at
  wrong_none h =
      let t = mapped_none of_child (slice_get xs (at / 2)) h in
      elim (cases_lt (at % 2) 1) [
        | inl l ↦ sym (two_even copied wronged xs (at / 2) at (omega arith) ∙ ap (option_map copied) t)
        | inr l ↦ sym (two_odd copied wronged xs (at / 2) at (omega arith) ∙ ap (option_map wronged) t)
      ]

  -- ---- four for each

  pub start_copy : (step r : Step) → Some step ≡ option_map of_child (slice_get xs (at / 4)) → at % 4 ≡ 0 → r ≡ to_copy count step
      → Some r ≡ slice_get (flat_map (start_steps first k count) xs) at
  start_copy step r h e q =
      let t = mapped_some of_child (slice_get xs (at / 4)) step h in
      ap (λ z. Some z) (q ∙ ap (to_copy count) t.2) ∙ sym (four_at copied wronged paired odded xs (at / 4) 0 at (omega arith) (omega (arith, e)) ∙ ap (option_map copied) t.1)

  pub start_wrong : (step r : Step) → Some step ≡ option_map of_child (slice_get xs (at / 4)) → at % 4 ≡ 1 → r ≡ to_wrong (states k.content) step
      → Some r ≡ slice_get (flat_map (start_steps first k count) xs) at
  start_wrong step r h e q =
      let t = mapped_some of_child (slice_get xs (at / 4)) step h in
      ap (λ z. Some z) (q ∙ ap (to_wrong (states k.content)) t.2)
      ∙ sym (four_at copied wronged paired odded xs (at / 4) 1 at (omega arith) (omega (arith, e)) ∙ ap (option_map wronged) t.1)

  pub start_pair : (r : Option Step) → at % 4 ≡ 2 → r ≡ option_map paired (slice_get xs (at / 4)) → r ≡ slice_get (flat_map (start_steps first k count) xs) at
  start_pair r e q = q ∙ sym (four_at copied wronged paired odded xs (at / 4) 2 at (omega arith) (omega (arith, e)))

  pub start_odd : (step r : Step) → Some step ≡ option_map of_child (slice_get xs (at / 4)) → at % 4 ≡ 3 → r ≡ to_odd k.odd step
      → Some r ≡ slice_get (flat_map (start_steps first k count) xs) at
  start_odd step r h e q =
      let t = mapped_some of_child (slice_get xs (at / 4)) step h in
      ap (λ z. Some z) (q ∙ ap (to_odd k.odd) t.2) ∙ sym (four_at copied wronged paired odded xs (at / 4) 3 at (omega arith) (omega (arith, e)) ∙ ap (option_map odded) t.1)

  pub start_none : None ≡ option_map of_child (slice_get xs (at / 4)) → None ≡ slice_get (flat_map (start_steps first k count) xs) at
  start_none h =
      let t = mapped_none of_child (slice_get xs (at / 4)) h in
      sym (four_at copied wronged paired odded xs (at / 4) (at % 4) at (omega arith) (omega arith) ∙ ap (option_map _) t)
