-- A pair among those that ascend is found by halves.
use Rattle.std.proofs.Common.{◌≡◌, ◌==◌, ℕ, List, [], ◌∷◌, Bool, true, false, Some, Result, Ok, Err, refl, sym, ap, ◌∙◌, slice_get, length}
use Rattle.std.specs.Result.{result_ok}
use Rattle.std.specs.List.Sorted.{IsBinarySearchResult, IsSearchInRange}
use Rattle.std.proofs.lemmas.Bool.{eqb-true, eq-eqb, and_parts, and_from}
use Rattle.attribute_types.proofs.TextTests.{on_test}
use Rattle.model_inclusion.specs.Listed.{IsAscending}
use Rattle.bound_checker.proofs.Halves.{by_both, AscendBy, once, searched}
use Rattle.comparison_tables.specs.Sides.{is_at, pair_place}
use Rattle.comparison_tables.proofs.Positions.{position_first, position_none, position_stands}

abbrev Pair : Type 0
Pair = ℕ × ℕ

pub at_is : (x : Pair) (i j : ℕ) → is_at i j x ≡ true → (x.0 ≡ i) × (x.1 ≡ j)
at_is x i j h = let p = and_parts (x.0 == i) (x.1 == j) h in (eqb-true x.0 i p.0, eqb-true x.1 j p.1)

pub is_own : (i j : ℕ) → is_at i j (i, j) ≡ true
is_own i j = and_from (i == i) (j == j) (eq-eqb i i refl) (eq-eqb j j refl)

the_pair : (x : Pair) (i j : ℕ) → is_at i j x ≡ true → x ≡ (i, j)
the_pair x i j h = let e = at_is x i j h in ap (λ z. (z, x.1)) e.0 ∙ ap (λ z. (i, z)) e.1

not_at : (x : Pair) (i j : ℕ) → (x ≡ (i, j) → ⊥) → is_at i j x ≡ false
not_at x i j n =
    let P : Bool → Type 0 = λ b. is_at i j x ≡ b → b ≡ false in
    on_test P (is_at i j x) (λ t q. absurd (n (the_pair x i j q))) (λ t q. refl) refl

by_states : (pairs : List Pair) → IsAscending pairs → AscendBy (λ (p : Pair). p) pairs
by_states [] a = tt
by_states (p ∷ pairs) a = (a.0, by_states pairs a.1)

-- a pair stands once
pub some_found : (pairs : List Pair) (i j k : ℕ) (x : Pair) → IsAscending pairs → slice_get pairs k ≡ Some x → is_at i j x ≡ true → pair_place pairs i j ≡ Some k
some_found pairs i j k x a q p = position_first (is_at i j) pairs k x q p
    (λ l y m g. not_at y i j (λ e. once (λ (p : Pair). p) pairs l k y x (by_states pairs a) m g q (e ∙ sym (the_pair x i j p))))

-- what stands at the place of a pair is the pair
pub place_stands : (pairs : List Pair) (i j k : ℕ) → pair_place pairs i j ≡ Some k → slice_get pairs k ≡ Some (i, j)
place_stands pairs i j k q = let t = position_stands (is_at i j) pairs k q in t.1 ∙ ap Some (the_pair t.0 i j t.2)

-- what a search finds is the place
pub found_place : (pairs : List Pair) (i j : ℕ) (r : Result ℕ ℕ) → IsAscending pairs → IsSearchInRange r (length pairs)
    → IsBinarySearchResult (λ x. by_both x (i, j)) pairs r → result_ok r ≡ pair_place pairs i j
found_place pairs i j (Ok k) a l h =
    let t = searched (λ (p : Pair). p) pairs (i, j) (Ok k) (by_states pairs a) l h in
    sym (some_found pairs i j k (i, j) a (t.1 ∙ ap Some t.2) (is_own i j))
found_place pairs i j (Err k) a l h =
    let none = searched (λ (p : Pair). p) pairs (i, j) (Err k) (by_states pairs a) l h in
    sym (position_none (is_at i j) pairs (λ m x q. not_at x i j (none m x q)))
