-- The first test of a list that fails, place by place.
use Rattle.std.proofs.Common.{◌≡◌, ◌≤◌, ◌<◌, ◌+◌, ℕ, zero, suc, List, [], ◌∷◌, ◌++◌, length, drop, Bool, not, cond, Option, Some, None, refl, sym, ap, ◌∙◌, subst, arith, slice_get}
use Rattle.std.specs.Prelude.{option_and_then}
use Rattle.std.specs.List.{AllByRecursion, flat_map, range_with_len}
use Rattle.std.proofs.lemmas.List.FromFn.{length-range_with_len, get_or-range_with_len}
use Rattle.std.proofs.lemmas.Option.{slice_get-get_or}
use Rattle.std.specs.Option.{option_or}
use Rattle.attribute_types.proofs.TextTests.{on_test}
use Rattle.attlist_merge.proofs.Turns.{drop_step, drop_all}
use Rattle.bound_checker.specs.declared.check.Broken.{Broken}
use Rattle.tree_costs.specs.Costs.{at_most}
use Rattle.bound_checker.specs.Tests.{each_at, failing}

-- the first that a function of the place gives
abbrev pub first_at : {X Y : Type 0} → (ℕ → X → Option Y) → ℕ → List X → Option Y
first_at g k [] = None
first_at g k (x ∷ xs) = option_or (g k x) (first_at g (k + 1) xs)

pub failing-append : (xs ys : List Broken) → failing (xs ++ ys) ≡ option_or (failing xs) (failing ys)
failing-append [] ys = refl
failing-append (x ∷ xs) ys =
    let P : Bool → Type 0 = λ b. cond (not b) (Some x) (failing (xs ++ ys)) ≡ option_or (cond (not b) (Some x) (failing xs)) (failing ys) in
    on_test P (at_most x.left x.right) (λ t. failing-append xs ys) (λ t. refl)

pub failing-each : {X : Type 0} (f : ℕ → X → List Broken) (k : ℕ) (xs : List X) → failing (each_at f k xs) ≡ first_at (λ n x. failing (f n x)) k xs
failing-each f k [] = refl
failing-each f k (x ∷ xs) = failing-append (f k x) (each_at f (k + 1) xs) ∙ ap (option_or (failing (f k x))) (failing-each f (k + 1) xs)

pub failing-flat : {X : Type 0} (f : X → List Broken) (k : ℕ) (xs : List X) → failing (flat_map f xs) ≡ first_at (λ n x. failing (f x)) k xs
failing-flat f k [] = refl
failing-flat f k (x ∷ xs) = failing-append (f x) (flat_map f xs) ∙ ap (option_or (failing (f x))) (failing-flat f (k + 1) xs)

slice_get_past : {X : Type 0} (xs : List X) (k : ℕ) → slice_get xs k ≡ None → length xs ≤ k
slice_get_past [] k h = omega arith
slice_get_past (x ∷ xs) zero h = cc
slice_get_past (x ∷ xs) (suc k) h = let l = slice_get_past xs k h in omega (arith, l)

-- what is left from a place on gives what all gives
abbrev pub IsLeft : {X Y : Type 0} → (ℕ → X → Option Y) → List X → ℕ → Type 0
IsLeft g all k = first_at g k (drop k all) ≡ first_at g 0 all

module _ {X Y : Type 0} (g : ℕ → X → Option Y) where
  one : (all : List X) (k : ℕ) (o : Option X) → slice_get all k ≡ o → first_at g k (drop k all) ≡ option_or (option_and_then (g k) o) (first_at g (k + 1) (drop (k + 1) all))
  one all k None at =
      let e = drop_all all k (slice_get_past all k at) in
      let f = drop_all all (k + 1) (let l = slice_get_past all k at in omega (arith, l)) in
      ap (first_at g k) e ∙ sym (ap (first_at g (k + 1)) f)
  one all k (Some x) at = ap (first_at g k) (drop_step all k x at)

  pub at_found : (all : List X) (k : ℕ) (y : Y) → option_and_then (g k) (slice_get all k) ≡ Some y → IsLeft g all k → first_at g 0 all ≡ Some y
  at_found all k y gives kept = sym kept ∙ (one all k (slice_get all k) refl ∙ ap (λ o. option_or o (first_at g (k + 1) (drop (k + 1) all))) gives)

  pub at_next : (all : List X) (k : ℕ) → option_and_then (g k) (slice_get all k) ≡ None → IsLeft g all k → IsLeft g all (k + 1)
  at_next all k gives kept = sym (one all k (slice_get all k) refl ∙ ap (λ o. option_or o (first_at g (k + 1) (drop (k + 1) all))) gives) ∙ kept

  pub at_end : (all : List X) (k : ℕ) → length all ≤ k → IsLeft g all k → None ≡ first_at g 0 all
  at_end all k past kept = sym (ap (first_at g k) (drop_all all k past)) ∙ kept

-- ---- turns of a loop

-- over a list with its places
module _ {X : Type 0} (f : ℕ → X → List Broken) where
  pub each_found : (all : List X) (k : ℕ) (o : Option Broken) (y : Broken) → o ≡ option_and_then (λ x. failing (f k x)) (slice_get all k) → o ≡ Some y
      → IsLeft (λ n x. failing (f n x)) all k → Some y ≡ failing (each_at f 0 all)
  each_found all k o y q h kept = sym (failing-each f 0 all ∙ at_found (λ n x. failing (f n x)) all k y (sym q ∙ h) kept)

  pub each_next : (all : List X) (k : ℕ) (o : Option Broken) → o ≡ option_and_then (λ x. failing (f k x)) (slice_get all k) → o ≡ None
      → IsLeft (λ n x. failing (f n x)) all k → IsLeft (λ n x. failing (f n x)) all (k + 1)
  each_next all k o q h kept = at_next (λ n x. failing (f n x)) all k (sym q ∙ h) kept

  pub each_end : (all : List X) (k : ℕ) → length all ≤ k → IsLeft (λ n x. failing (f n x)) all k → None ≡ failing (each_at f 0 all)
  each_end all k past kept = at_end (λ n x. failing (f n x)) all k past kept ∙ sym (failing-each f 0 all)

  -- the same where the item is at hand
  pub each_stop : (all : List X) (k : ℕ) (o : Option X) → o ≡ slice_get all k → o ≡ None → IsLeft (λ n x. failing (f n x)) all k → None ≡ failing (each_at f 0 all)
  each_stop all k o q h kept = each_end all k (slice_get_past all k (sym q ∙ h)) kept

  pub each_hit : (all : List X) (k : ℕ) (x : X) (r : Option Broken) (y : Broken) → Some x ≡ slice_get all k → r ≡ failing (f k x) → r ≡ Some y
      → IsLeft (λ n x. failing (f n x)) all k → Some y ≡ failing (each_at f 0 all)
  each_hit all k x r y at q h kept = each_found all k r y (q ∙ ap (option_and_then (λ x. failing (f k x))) at) h kept

  pub each_miss : (all : List X) (k : ℕ) (x : X) (r : Option Broken) → Some x ≡ slice_get all k → r ≡ failing (f k x) → r ≡ None
      → IsLeft (λ n x. failing (f n x)) all k → IsLeft (λ n x. failing (f n x)) all (k + 1)
  each_miss all k x r at q h kept = each_next all k r (q ∙ ap (option_and_then (λ x. failing (f k x))) at) h kept

-- over the items of a list
module _ {X : Type 0} (f : X → List Broken) where
  pub flat_found : (all : List X) (k : ℕ) (x : X) (o : Option Broken) (y : Broken) → slice_get all k ≡ Some x → o ≡ failing (f x) → o ≡ Some y
      → IsLeft (λ n x. failing (f x)) all k → Some y ≡ failing (flat_map f all)
  flat_found all k x o y at q h kept =
      sym (failing-flat f 0 all ∙ at_found (λ n x. failing (f x)) all k y (ap (option_and_then (λ x. failing (f x))) at ∙ sym q ∙ h) kept)

  pub flat_next : (all : List X) (k : ℕ) (x : X) (o : Option Broken) → slice_get all k ≡ Some x → o ≡ failing (f x) → o ≡ None
      → IsLeft (λ n x. failing (f x)) all k → IsLeft (λ n x. failing (f x)) all (k + 1)
  flat_next all k x o at q h kept = at_next (λ n x. failing (f x)) all k (ap (option_and_then (λ x. failing (f x))) at ∙ sym q ∙ h) kept

  pub flat_end : (all : List X) (k : ℕ) → length all ≤ k → IsLeft (λ n x. failing (f x)) all k → None ≡ failing (flat_map f all)
  flat_end all k past kept = at_end (λ n x. failing (f x)) all k past kept ∙ sym (failing-flat f 0 all)

-- the numbers from 0 on
pub ranged : (n k : ℕ) → k < n → slice_get (range_with_len 0 n) k ≡ Some k
ranged n k l =
    slice_get-get_or (range_with_len 0 n) k 0 (let q = length-range_with_len 0 n in omega (arith, q, l))
    ∙ ap (λ x. Some x) (let q = get_or-range_with_len 0 n k 0 l in omega (arith, q))

pub ranged_end : (n k : ℕ) → n ≤ k → length (range_with_len 0 n) ≤ k
ranged_end n k l = let q = length-range_with_len 0 n in omega (arith, q, l)

module _ {X : Type 0} (f : X → List Broken) where
  pub flats_found : (all : List X) (k : ℕ) (o : Option Broken) (y : Broken) → o ≡ option_and_then (λ x. failing (f x)) (slice_get all k) → o ≡ Some y
      → IsLeft (λ n x. failing (f x)) all k → Some y ≡ failing (flat_map f all)
  flats_found all k o y q h kept = sym (failing-flat f 0 all ∙ at_found (λ n x. failing (f x)) all k y (sym q ∙ h) kept)

  pub flats_next : (all : List X) (k : ℕ) (o : Option Broken) → o ≡ option_and_then (λ x. failing (f x)) (slice_get all k) → o ≡ None
      → IsLeft (λ n x. failing (f x)) all k → IsLeft (λ n x. failing (f x)) all (k + 1)
  flats_next all k o q h kept = at_next (λ n x. failing (f x)) all k (sym q ∙ h) kept

pub all_got : {X : Type 0} (P : X → Type 0) (xs : List X) (k : ℕ) (x : X) → AllByRecursion P xs → slice_get xs k ≡ Some x → P x
all_got P [] k x h q = cc
all_got P (y ∷ xs) zero x h q = let same : y ≡ x = cc in subst P same h.0
all_got P (y ∷ xs) (suc k) x h q = all_got P xs k x h.1 q

-- ---- one list after another

pub two_some : (xs ys : List Broken) (o : Option Broken) (y : Broken) → o ≡ failing xs → o ≡ Some y → Some y ≡ failing (xs ++ ys)
two_some xs ys o y q h = sym (failing-append xs ys ∙ ap (λ k. option_or k (failing ys)) (sym q ∙ h))

pub two_none : (xs ys : List Broken) (o r : Option Broken) → o ≡ failing xs → o ≡ None → r ≡ failing ys → r ≡ failing (xs ++ ys)
two_none xs ys o r q h e = e ∙ sym (failing-append xs ys ∙ ap (λ k. option_or k (failing ys)) (sym q ∙ h))
