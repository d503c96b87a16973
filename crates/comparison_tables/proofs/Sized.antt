-- How large the graph of a comparison is.
use Rattle.std.proofs.Common.{◌≡◌, ◌≤◌, ◌<◌, ◌+◌, ◌-◌, ◌*◌, ℕ, zero, suc, ◌==◌, inl, inr, List, [], ◌∷◌, length, map, Bool, true, false, cond, Option, Some, None, slice_get, refl, sym, subst, arith}
use Rattle.std.specs.List.{flat_map}
use Rattle.std.proofs.lemmas.List.{length-map}
use Rattle.attribute_types.proofs.TextTests.{on_test}
use Rattle.content_models.specs.declared.content.Content.{Content}
use Rattle.content_models.specs.declared.content.Content.TheVariants.{Empty, Any, Mixed, Children}
use Rattle.content_models.specs.Model.{Chars}
use Rattle.content_models.specs.Proper.{IsProper}
use Rattle.position_automata.specs.Automata.{states}
use Rattle.position_automata.proofs.Stepping.{few_steps}
use Rattle.decl_set.specs.Asked.{IsKept}
use Rattle.decl_set.specs.Children.{child_step}
use Rattle.decl_set.specs.Declarations.{Declarations, Element}
use Rattle.decl_set.specs.Steps.{steps_in as steps_of_content}
use Rattle.least_trees.specs.Plans.{Plan, Step, steps_within, steps_below, states_below, steps_in, states_in}
use Rattle.comparison_tables.specs.declared.kinds.Kind.{Kind}
use Rattle.comparison_tables.specs.declared.kinds.Kind.TheVariants as kind
use Rattle.comparison_tables.specs.declared.sides.Side.{Side}
use Rattle.comparison_tables.specs.Sides.{AreSides, Known, known, known_at}
use Rattle.comparison_tables.specs.Copies.{kind_in, to_go, to_copy, to_wrong, to_odd, pair_step, kind_steps}
use Rattle.comparison_tables.specs.Plans.{own_states, own_steps, states_of_copy, steps_of_copy, is_own, known_of, plan_of}
use Rattle.comparison_tables.proofs.Bounds.{few_states, proper_at}
use Rattle.comparison_tables.proofs.Knowing.{either_stands, is_known, none_known}

two_each : {A B : Type 0} (f g : A → B) (xs : List A) → length (flat_map (λ x. f x ∷ g x ∷ []) xs) ≡ length xs + length xs
two_each f g [] = refl
two_each f g (x ∷ xs) = omega (arith, two_each f g xs)

four_each : {A B : Type 0} (f g h w : A → B) (xs : List A) → length (flat_map (λ x. f x ∷ g x ∷ h x ∷ w x ∷ []) xs) ≡ 4 * length xs
four_each f g h w [] = refl
four_each f g h w (x ∷ xs) = omega (arith, four_each f g h w xs)

module _ (first second : Declarations) (sides : List Side) (cap : ℕ) (kept : IsKept first) (S : AreSides first second sides) where
  few_in : (a : Content) (i : ℕ) → IsProper a → length (steps_of_content first a i) ≤ 1024
  few_in Empty i p = omega arith
  few_in Any i p = by (i == 0)
    where
      by : (b : Bool) → length {A = Chars × ℕ} (cond b (map {B = Chars × ℕ} (λ e. (e.0, 0)) first.elements) []) ≤ 1024
      by true = omega (arith, length-map {B = Chars × ℕ} first.elements (λ e. (e.0, 0)), kept.few)
      by false = omega arith
  few_in (Mixed listed) i p = few_steps (Mixed listed) i p
  few_in (Children part) i p = few_steps (Children part) i p

  abbrev P : Plan
  P = plan_of first second sides cap

  abbrev n : ℕ
  n = length first.elements

  -- ---- an element itself

  own_few : (o : Option Element) (i : ℕ) → ((x : Element) → o ≡ Some x → IsProper x.1) → length (own_steps first o i) ≤ 4096
  own_few None i h = omega arith
  own_few (Some x) i h = omega (arith, length-map {B = Step} (steps_of_content first x.1 i) (child_step first), few_in x.1 i (h x refl))

  own_states_few : (o : Option Element) → ((x : Element) → o ≡ Some x → IsProper x.1) → own_states o ≤ 2002051
  own_states_few None h = omega arith
  own_states_few (Some x) h = omega (arith, few_states x.1 (h x refl))

  -- ---- its copy

  kind_few : (k : Known) (kd : Kind) → IsProper k.content → length (kind_steps first k n kd) ≤ 4096
  kind_few k kind.Start p = omega (arith, four_each {B = Step} (λ s. to_copy n (child_step first s)) (λ s. to_wrong (states k.content) (child_step first s)) (pair_step first k 0) (λ s. to_odd k.odd (child_step first s)) (steps_of_content first k.content 0), few_in k.content 0 p)
  kind_few k (kind.Go i) p = omega (arith, length-map {B = Step} (steps_of_content first k.content i) (λ s. to_go (child_step first s)), few_in k.content i p)
  kind_few k (kind.Wrong i) p = omega (arith, two_each {B = Step} (λ s. to_copy n (child_step first s)) (λ s. to_wrong (states k.content) (child_step first s)) (steps_of_content first k.content i), few_in k.content i p)
  kind_few k (kind.Pair i j) p = omega (arith, length-map {B = Step} (steps_of_content first k.content i) (pair_step first k j), few_in k.content i p)
  kind_few k kind.Beyond p = omega arith

  copy_few : (x i : ℕ) → length (steps_of_copy first (known_at first second sides x) i) ≤ 4096
  copy_few x i = elim (either_stands first second sides kept S x) [
    | inl s ↦
        let k = known second s.element s.side in
        subst (λ (o : Option Known). length (steps_of_copy first o i) ≤ 4096) (sym (is_known first second sides kept S x s))
        (kind_few k (kind_in k i) (proper_at first kept x s.element s.there))
    | inr q ↦ subst (λ (o : Option Known). length (steps_of_copy first o i) ≤ 4096) (sym (none_known first second sides kept S x q)) (omega arith)
  ]

  copy_states_few : (x : ℕ) → states_of_copy (known_at first second sides x) ≤ 2002051
  copy_states_few x = elim (either_stands first second sides kept S x) [
    | inl s ↦
        let p = few_states s.element.1 (proper_at first kept x s.element s.there) in
        subst (λ (o : Option Known). states_of_copy o ≤ 2002051) (sym (is_known first second sides kept S x s)) (omega (arith, p, (s.knows).few))
    | inr q ↦ subst (λ (o : Option Known). states_of_copy o ≤ 2002051) (sym (none_known first second sides kept S x q)) (omega arith)
  ]

  -- ---- both

  few_steps_at : (x i : ℕ) → length (P.numbers.steps x i) ≤ 4096
  few_steps_at x i =
      on_test (λ b. length (cond b (own_steps first (slice_get first.elements x) i) (steps_of_copy first (known_of first second sides x) i)) ≤ 4096) (is_own first second sides x)
      (λ q. own_few (slice_get first.elements x) i (proper_at first kept x)) (λ q. copy_few (x - n) i)

  few_states_at : (x : ℕ) → P.states x ≤ 2002051
  few_states_at x =
      on_test (λ b. cond b (own_states (slice_get first.elements x)) (states_of_copy (known_of first second sides x)) ≤ 2002051) (is_own first second sides x)
      (λ q. own_states_few (slice_get first.elements x) (proper_at first kept x)) (λ q. copy_states_few (x - n))

  within-few : (x m : ℕ) → steps_within P x m ≤ m * 4096
  within-few x zero = omega arith
  within-few x (suc m) = omega (arith, within-few x m, few_steps_at x m)

  below-few : (m : ℕ) → steps_below P m ≤ m * 8200400896
  below-few zero = omega arith
  below-few (suc m) = omega (arith, below-few m, within-few m (P.states m), few_states_at m)

  states-few : (m : ℕ) → states_below P m ≤ m * 2002051
  states-few zero = omega arith
  states-few (suc m) = omega (arith, states-few m, few_states_at m)

  pub few-looks : steps_in P + states_in P < 9223372036854775808
  unfolding steps_in states_in
  few-looks = omega (arith, below-few P.count, states-few P.count, kept.few)

  pub few-sums : steps_in P + P.count < 9223372036854775808
  unfolding steps_in
  few-sums = omega (arith, below-few P.count, kept.few)
