-- The numbers of a copy's states, and what they are for.
use Rattle.std.proofs.Common.{◌≡◌, ◌≤◌, ◌<◌, ◌+◌, ◌-◌, ℕ, zero, suc, Bool, true, false, cond, List, [], ◌∷◌, length, Option, Some, None, refl, sym, ap, ◌∙◌, arith, slice_get}
use Rattle.std.specs.Prelude.{nat_lt}
use Rattle.std.proofs.lemmas.Bool.{lt-ltb, le-ltb, ltb-true, ltb-false}
use Rattle.attribute_types.proofs.TextTests.{on_test}
use Rattle.comparison_tables.specs.declared.kinds.Kind.{Kind}
use Rattle.comparison_tables.specs.declared.kinds.Kind.TheVariants.{Start, Go, Wrong, Pair, Beyond}
use Rattle.comparison_tables.specs.Kinds.{kind_of, later_kind, pair_kind, go_number, wrong_number, pair_number}

-- the kind of a number, and that it is the number of that kind
abbrev pub IsNumber : ℕ → List (ℕ × ℕ) → ℕ → Kind → Type 0
IsNumber n pairs t Start = t ≡ 0
IsNumber n pairs t (Go i) = (i < n) × (t ≡ go_number i)
IsNumber n pairs t (Wrong i) = (i < n) × (t ≡ wrong_number n i)
IsNumber n pairs t (Pair i j) = (at : ℕ) × (slice_get pairs at ≡ Some (i, j)) × (t ≡ pair_number n at)
IsNumber n pairs t Beyond = n + n + length pairs < t

module _ (n : ℕ) (pairs : List (ℕ × ℕ)) where
  pub go_kind : (i : ℕ) → i < n → kind_of n pairs (go_number i) ≡ Go i
  go_kind i l = ap (λ b. cond b (Go i) (later_kind n pairs (i - n))) (lt-ltb i n l)

  later : (t i : ℕ) → n ≤ t → t - n ≡ i → kind_of n pairs (suc t) ≡ later_kind n pairs i
  later t i l q = ap (λ b. cond b (Go t) (later_kind n pairs (t - n))) (le-ltb t n l) ∙ ap (later_kind n pairs) q

  pub wrong_kind : (i : ℕ) → i < n → kind_of n pairs (wrong_number n i) ≡ Wrong i
  wrong_kind i l = later (n + i) i (omega arith) (omega arith) ∙ ap (λ b. cond b (Wrong i) (pair_kind (slice_get pairs (i - n)))) (lt-ltb i n l)

  pub pair_kind_is : (at i j : ℕ) → slice_get pairs at ≡ Some (i, j) → kind_of n pairs (pair_number n at) ≡ Pair i j
  pair_kind_is at i j q =
      let e : n + at - n ≡ at = omega arith in
      later (n + (n + at)) (n + at) (omega arith) (omega arith) ∙ ap (λ b. cond b (Wrong (n + at)) (pair_kind (slice_get pairs (n + at - n)))) (le-ltb (n + at) n (omega arith))
      ∙ ap (λ k. pair_kind (slice_get pairs k)) e ∙ ap pair_kind q

  past_numbered : (t u : ℕ) → n ≤ u → t ≡ suc (n + u) → (o : Option (ℕ × ℕ)) → slice_get pairs (u - n) ≡ o → IsNumber n pairs t (pair_kind o)
  past_numbered t u l e (Some p) q = (u - n, q, omega (arith, e))
  past_numbered t u l e None q = by (nat_lt (u - n) (length pairs)) refl
    where
      by : (b : Bool) → nat_lt (u - n) (length pairs) ≡ b → n + n + length pairs < t
      by true h = absurd (let s = some_there pairs (u - n) (ltb-true (u - n) (length pairs) h) in let z : None ≡ Some s.0 = sym q ∙ s.1 in cc)
        where
          some_there : (xs : List (ℕ × ℕ)) (k : ℕ) → k < length xs → (x : ℕ × ℕ) × (slice_get xs k ≡ Some x)
          some_there [] k h = absurd (omega arith)
          some_there (x ∷ xs) zero h = (x, refl)
          some_there (x ∷ xs) (suc k) h = some_there xs k (omega arith)
      by false h = let g : length pairs ≤ u - n = ltb-false (u - n) (length pairs) h in omega (arith, e, g)

  later_numbered : (t u : ℕ) → t ≡ suc (n + u) → IsNumber n pairs t (later_kind n pairs u)
  later_numbered t u e =
      let P : Bool → Type 0 = λ b. IsNumber n pairs t (cond b (Wrong u) (pair_kind (slice_get pairs (u - n)))) in
      on_test P (nat_lt u n) (λ h. (ltb-true u n h, e)) (λ h. past_numbered t u (ltb-false u n h) e (slice_get pairs (u - n)) refl)

  pub numbered : (t : ℕ) → IsNumber n pairs t (kind_of n pairs t)
  numbered zero = refl
  numbered (suc t) =
      let P : Bool → Type 0 = λ b. IsNumber n pairs (suc t) (cond b (Go t) (later_kind n pairs (t - n))) in
      on_test P (nat_lt t n) (λ h. (ltb-true t n h, refl)) (λ h. later_numbered (suc t) (t - n) (let g : n ≤ t = ltb-false t n h in omega (arith, g)))
