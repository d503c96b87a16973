-- The place of the first that passes a test.
use Rattle.std.proofs.Common.{◌≡◌, ◌<◌, ◌+◌, ℕ, zero, suc, List, [], ◌∷◌, length, Bool, true, false, cond, not, Some, None, refl, sym, ap, ◌∙◌, arith, slice_get}
use Rattle.std.specs.Prelude.{position, nat_lt}
use Rattle.std.specs.List.{position_or_len}
use Rattle.std.proofs.lemmas.Bool.{lt-ltb, ltb-true}
use Rattle.std.proofs.lemmas.Option.{slice_get_within}
use Rattle.attribute_types.proofs.TextTests.{on_test}

at_place : (n l : ℕ) → n < l → cond (nat_lt n l) (Some n) None ≡ Some n
at_place n l h = ap (λ b. cond b (Some n) None) (lt-ltb n l h)

at_end : (n l : ℕ) → n ≡ l → cond (nat_lt n l) (Some n) None ≡ None
at_end n l h =
    let P : Bool → Type 0 = λ b. nat_lt n l ≡ b → cond b (Some n) None ≡ None in
    on_test P (nat_lt n l) (λ t q. absurd (let lt : n < l = ltb-true n l q in omega arith)) (λ t q. refl) refl

module _ {X : Type 0} (p : X → Bool) where
  first_len : (xs : List X) (k : ℕ) (x : X) → slice_get xs k ≡ Some x → p x ≡ true → ((l : ℕ) (y : X) → l < k → slice_get xs l ≡ Some y → p y ≡ false)
      → position_or_len p xs ≡ k
  first_len [] k x q t h = cc
  first_len (y ∷ xs) zero x q t h =
      let same : y ≡ x = cc in
      ap (λ b. cond (not b) (1 + position_or_len p xs) 0) (ap p same ∙ t)
  first_len (y ∷ xs) (suc k) x q t h =
      let later = first_len xs k x q t (λ l z m g. h (suc l) z (omega arith) g) in
      ap (λ b. cond (not b) (1 + position_or_len p xs) 0) (h 0 y (omega arith) refl) ∙ omega (arith, later)

  -- one that passes, and none before it
  pub position_first : (xs : List X) (k : ℕ) (x : X) → slice_get xs k ≡ Some x → p x ≡ true → ((l : ℕ) (y : X) → l < k → slice_get xs l ≡ Some y → p y ≡ false)
      → position p xs ≡ Some k
  position_first xs k x q t h =
      let n = first_len xs k x q t h in
      let within = slice_get_within xs k x q in
      at_place (position_or_len p xs) (length xs) (omega (arith, n, within)) ∙ ap Some n

  none_len : (xs : List X) → ((l : ℕ) (y : X) → slice_get xs l ≡ Some y → p y ≡ false) → position_or_len p xs ≡ length xs
  none_len [] h = refl
  none_len (y ∷ xs) h =
      let later = none_len xs (λ l z g. h (suc l) z g) in
      ap (λ b. cond (not b) (1 + position_or_len p xs) 0) (h 0 y refl) ∙ omega (arith, later)

  -- none passes
  pub position_none : (xs : List X) → ((l : ℕ) (y : X) → slice_get xs l ≡ Some y → p y ≡ false) → position p xs ≡ None
  position_none xs h = at_end (position_or_len p xs) (length xs) (none_len xs h)

  stands_len : (xs : List X) → position_or_len p xs < length xs → (x : X) × (slice_get xs (position_or_len p xs) ≡ Some x) × (p x ≡ true)
  stands_len [] h = absurd (omega arith)
  stands_len (y ∷ xs) h =
      let n = position_or_len p xs in
      let P : Bool → Type 0 = λ b. p y ≡ b → cond (not b) (1 + n) 0 < length (y ∷ xs)
      → (x : X) × (slice_get (y ∷ xs) (cond (not b) (1 + n) 0) ≡ Some x) × (p x ≡ true) in
      on_test P (p y) (λ t q h. (y, refl, q))
      (λ t q h.
      let later = stands_len xs (omega arith) in
      let s : 1 + n ≡ suc n = omega arith in
      (later.0, ap (slice_get (y ∷ xs)) s ∙ later.1, later.2))
      refl h

  -- what stands at the place passes
  pub position_stands : (xs : List X) (k : ℕ) → position p xs ≡ Some k → (x : X) × (slice_get xs k ≡ Some x) × (p x ≡ true)
  position_stands xs k q =
      let n = position_or_len p xs in
      let P : Bool → Type 0 = λ b. nat_lt n (length xs) ≡ b → cond b (Some n) None ≡ Some k → (x : X) × (slice_get xs k ≡ Some x) × (p x ≡ true) in
      on_test P (nat_lt n (length xs))
      (λ t l q.
      let same : n ≡ k = cc in
      let s = stands_len xs (ltb-true n (length xs) l) in
      (s.0, ap (slice_get xs) (sym same) ∙ s.1, s.2))
      (λ t l q. cc)
      refl q
