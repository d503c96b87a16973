-- Lists that are gone through by place.
use Rattle.std.proofs.Common.{◌≡◌, ◌∙◌, ℕ, zero, suc, ◌+◌, ◌≤◌, Bool, true, false, ◌||◌, List, [], ◌∷◌, drop, length, refl, sym, ap, Some, None, slice_get, arith}
use Rattle.std.specs.Prelude.{Option, option_and_then, is_none}
use Rattle.std.specs.List.{list_any}
use Rattle.std.specs.Option.{option_or, option_map_or}
use Rattle.std.proofs.lemmas.Bool.{both_ways}
use Rattle.attlist_merge.specs.Oddness.{first_some}

pub one_more : (k : ℕ) → k + 1 ≡ suc k
one_more k = omega arith

drop_suc : {X : Type 0} (xs : List X) (i : ℕ) (x : X) → slice_get xs i ≡ Some x → drop i xs ≡ x ∷ drop (suc i) xs
drop_suc [] i x e = cc
drop_suc (y ∷ ys) zero x e = cc
drop_suc (y ∷ ys) (suc i) x e = drop_suc ys i x e

-- from the item at a place on
pub drop_step : {X : Type 0} (xs : List X) (i : ℕ) (x : X) → slice_get xs i ≡ Some x → drop i xs ≡ x ∷ drop (i + 1) xs
drop_step xs i x e = drop_suc xs i x e ∙ ap (λ k. x ∷ drop k xs) (sym (one_more i))

drop_none : {X : Type 0} (xs : List X) (i : ℕ) → slice_get xs i ≡ None → drop i xs ≡ []
drop_none [] zero e = refl
drop_none [] (suc i) e = refl
drop_none (y ∷ ys) zero e = cc
drop_none (y ∷ ys) (suc i) e = drop_none ys i e

drop_none_suc : {X : Type 0} (xs : List X) (i : ℕ) → slice_get xs i ≡ None → drop (suc i) xs ≡ []
drop_none_suc [] i e = refl
drop_none_suc (y ∷ ys) zero e = cc
drop_none_suc (y ∷ ys) (suc i) e = drop_none_suc ys i e

-- past the end nothing changes
pub drop_past : {X : Type 0} (xs : List X) (i : ℕ) → slice_get xs i ≡ None → drop i xs ≡ drop (i + 1) xs
drop_past xs i e = drop_none xs i e ∙ (sym (drop_none_suc xs i e) ∙ ap (λ k. drop k xs) (sym (one_more i)))

pub drop_all : {X : Type 0} (xs : List X) (i : ℕ) → length xs ≤ i → drop i xs ≡ []
drop_all [] zero h = refl
drop_all [] (suc i) h = refl
drop_all (y ∷ ys) zero h = absurd (omega arith)
drop_all (y ∷ ys) (suc i) h = drop_all ys i (omega arith)

-- ---- a test of each item

module _ {X : Type 0} (p : X → Bool) where
  any_one : (all : List X) (i : ℕ) (o : Option X) → slice_get all i ≡ o → list_any p (drop i all) ≡ (option_map_or p o false || list_any p (drop (i + 1) all))
  any_one all i None at = ap (list_any p) (drop_past all i at)
  any_one all i (Some x) at = ap (list_any p) (drop_step all i x at)

  pub any_found : (all : List X) (i : ℕ) → option_map_or p (slice_get all i) false ≡ true → list_any p (drop i all) ≡ list_any p all → list_any p all ≡ true
  any_found all i passes kept = sym kept ∙ (any_one all i (slice_get all i) refl ∙ ap (λ c. c || list_any p (drop (i + 1) all)) passes)

  pub any_next : (all : List X) (i : ℕ) → option_map_or p (slice_get all i) false ≡ false → list_any p (drop i all) ≡ list_any p all → list_any p (drop (i + 1) all) ≡ list_any p all
  any_next all i fails kept = sym (any_one all i (slice_get all i) refl ∙ ap (λ c. c || list_any p (drop (i + 1) all)) fails) ∙ kept

  pub any_none : (all : List X) (i : ℕ) → length all ≤ i → list_any p (drop i all) ≡ list_any p all → list_any p all ≡ false
  any_none all i past kept = sym kept ∙ ap (list_any p) (drop_all all i past)

-- ---- the first that a function gives

module _ {X Y : Type 0} (f : X → Option Y) where
  some_one : (all : List X) (i : ℕ) (o : Option X) → slice_get all i ≡ o → first_some f (drop i all) ≡ option_or (option_and_then f o) (first_some f (drop (i + 1) all))
  some_one all i None at = ap (first_some f) (drop_past all i at)
  some_one all i (Some x) at = ap (first_some f) (drop_step all i x at)

  pub some_found : (all : List X) (i : ℕ) (y : Y) → option_and_then f (slice_get all i) ≡ Some y → first_some f (drop i all) ≡ first_some f all → first_some f all ≡ Some y
  some_found all i y gives kept = sym kept ∙ (some_one all i (slice_get all i) refl ∙ ap (λ o. option_or o (first_some f (drop (i + 1) all))) gives)

  pub some_next : (all : List X) (i : ℕ) → option_and_then f (slice_get all i) ≡ None → first_some f (drop i all) ≡ first_some f all → first_some f (drop (i + 1) all) ≡ first_some f all
  some_next all i gives kept = sym (some_one all i (slice_get all i) refl ∙ ap (λ o. option_or o (first_some f (drop (i + 1) all))) gives) ∙ kept

  pub some_none : (all : List X) (i : ℕ) → length all ≤ i → first_some f (drop i all) ≡ first_some f all → first_some f all ≡ None
  some_none all i past kept = sym kept ∙ ap (first_some f) (drop_all all i past)

  none_false : (o : Option Y) → is_none o ≡ false → (rest : Option Y) → is_none (option_or o rest) ≡ false
  none_false None e rest = absurd (both_ways true e refl)
  none_false (Some y) e rest = refl

  none_true : (o : Option Y) → is_none o ≡ true → o ≡ None
  none_true None e = refl
  none_true (Some y) e = absurd (both_ways false refl e)

  -- the same where only whether there is one counts
  pub has_found : (all : List X) (i : ℕ) → is_none (option_and_then f (slice_get all i)) ≡ false → first_some f (drop i all) ≡ first_some f all → is_none (first_some f all) ≡ false
  has_found all i gives kept = ap is_none (sym kept ∙ some_one all i (slice_get all i) refl) ∙ none_false (option_and_then f (slice_get all i)) gives (first_some f (drop (i + 1) all))

  pub has_next : (all : List X) (i : ℕ) → is_none (option_and_then f (slice_get all i)) ≡ true → first_some f (drop i all) ≡ first_some f all → first_some f (drop (i + 1) all) ≡ first_some f all
  has_next all i gives kept = some_next all i (none_true (option_and_then f (slice_get all i)) gives) kept
