-- An element among those whose keys ascend is found by halves.
use Rattle.std.proofs.Common.{◌≡◌, ◌<◌, ◌+◌, ◌==◌, ℕ, zero, suc, List, [], ◌∷◌, length, Bool, true, false, cond, ◌⊎◌, inl, inr, Some, None, Result, Ok, Err, refl, sym, ap, ◌∙◌, subst, arith, slice_get, get_or, find, IsSortedBy}
use Rattle.std.specs.Prelude.{option_map}
use Rattle.std.specs.List.{AllByRecursion}
use Rattle.std.specs.List.Sorted.{IsBinarySearchResult, IsSearchInRange}
use Rattle.std.specs.Cmp.{IsTotalOrder, nat_cmp_is, ranks}
use Rattle.std.specs.Ordering.{MatchOrdering, nat_cmp, is_lt, ordering_then}
use Rattle.std.specs.declared.cmp.Ordering.{Ordering}
use Rattle.std.specs.declared.cmp.Ordering.TheVariants.{Less, Equal, Greater}
use Rattle.std.proofs.lemmas.Bool.{eqb-true, eq-eqb, and_parts, and_from, cases_lt}
use Rattle.std.proofs.lemmas.Cmp.{nat_cmp_total, on_total, then_total}
use Rattle.std.proofs.lemmas.List.Sorted.{searchable_from_sorted}
use Rattle.std.proofs.lemmas.Option.{slice_get-get_or, slice_get_cases, slice_get_within, get_or_from_slice_get}
use Rattle.attribute_types.proofs.TextTests.{on_test}
use Rattle.bound_checker.specs.declared.tables.PairRow.{PairRow}
use Rattle.bound_checker.specs.Tabled.{states_of, is_pair, AreAscending}

-- ---- the order of pairs of numbers

-- by the first, then by the second
abbrev pub by_both : ℕ × ℕ → ℕ × ℕ → Ordering
by_both p q = ordering_then (nat_cmp p.0 q.0) (nat_cmp p.1 q.1)

abbrev pub IsUnder : ℕ × ℕ → ℕ × ℕ → Type 0
IsUnder p q = (p.0 < q.0) ⊎ ((p.0 ≡ q.0) × (p.1 < q.1))

both_total : IsTotalOrder by_both
both_total = then_total (on_total (λ (p : ℕ × ℕ). p.0) nat_cmp_total) (on_total (λ (p : ℕ × ℕ). p.1) nat_cmp_total)

own : (p : ℕ × ℕ) → by_both p p ≡ Equal
own p = ap (λ o. ordering_then o (nat_cmp p.1 p.1)) (sym (nat_cmp_is p.0 p.0 Equal refl)) ∙ sym (nat_cmp_is p.1 p.1 Equal refl)

not_lower : (p q : ℕ × ℕ) → IsUnder p q → is_lt (by_both q p) ≡ false
not_lower p q (inl l) = ap (λ o. is_lt (ordering_then o (nat_cmp q.1 p.1))) (sym (nat_cmp_is q.0 p.0 Greater l))
not_lower p q (inr l) =
    ap (λ o. is_lt (ordering_then o (nat_cmp q.1 p.1))) (sym (nat_cmp_is q.0 p.0 Equal (sym l.0))) ∙ ap is_lt (sym (nat_cmp_is q.1 p.1 Greater l.1))

equal_is : (p q : ℕ × ℕ) → by_both p q ≡ Equal → p ≡ q
equal_is p q h = by (nat_cmp p.0 q.0) (nat_cmp p.1 q.1) (ranks p.0 q.0) (ranks p.1 q.1) h
  where
    by : (o u : Ordering) → MatchOrdering o (p.0 < q.0) (p.0 ≡ q.0) (q.0 < p.0) → MatchOrdering u (p.1 < q.1) (p.1 ≡ q.1) (q.1 < p.1) → ordering_then o u ≡ Equal → p ≡ q
    by Less u m n h = cc
    by Greater u m n h = cc
    by Equal Less m n h = cc
    by Equal Greater m n h = cc
    by Equal Equal m n h = ap (λ z. (z, p.1)) m ∙ ap (λ z. (q.0, z)) n

-- ---- keys that ascend

pub all_got : {X : Type 0} (P : X → Type 0) (xs : List X) (k : ℕ) (x : X) → AllByRecursion P xs → slice_get xs k ≡ Some x → P x
all_got P [] k x h q = cc
all_got P (y ∷ xs) zero x h q = let same : y ≡ x = cc in subst P same h.0
all_got P (y ∷ xs) (suc k) x h q = all_got P xs k x h.1 q

module _ {X : Type 0} (key : X → ℕ × ℕ) where
  abbrev pub AscendBy : List X → Type 0
  AscendBy [] = Unit {0}
  AscendBy (x ∷ xs) = AllByRecursion (λ y. IsUnder (key x) (key y)) xs × AscendBy xs

  ascends : (xs : List X) (k l : ℕ) (x y : X) → AscendBy xs → k < l → slice_get xs k ≡ Some x → slice_get xs l ≡ Some y → IsUnder (key x) (key y)
  ascends [] k l x y a h p q = cc
  ascends (z ∷ xs) zero zero x y a h p q = absurd (omega arith)
  ascends (z ∷ xs) zero (suc l) x y a h p q = let same : z ≡ x = cc in subst (λ (w : X). IsUnder (key w) (key y)) same (all_got (λ w. IsUnder (key z) (key w)) xs l y a.0 q)
  ascends (z ∷ xs) (suc k) zero x y a h p q = absurd (omega arith)
  ascends (z ∷ xs) (suc k) (suc l) x y a h p q = ascends xs k l x y a.1 (omega arith) p q

  -- a key stands once
  pub once : (xs : List X) (k l : ℕ) (x y : X) → AscendBy xs → k < l → slice_get xs k ≡ Some x → slice_get xs l ≡ Some y → key x ≡ key y → ⊥
  once xs k l x y a h p q e = no (ascends xs k l x y a h p q)
    where
      no : IsUnder (key x) (key y) → ⊥
      no (inl u) = omega (arith, ap (λ z. z.0) e)
      no (inr u) = omega (arith, u.1, ap (λ z. z.1) e)

  -- an element of this key, or none has it
  abbrev pub IsFound : List X → ℕ × ℕ → Result ℕ ℕ → Type 0
  IsFound xs s (Ok k) = (x : X) × (slice_get xs k ≡ Some x) × (key x ≡ s)
  IsFound xs s (Err i) = (k : ℕ) (x : X) → slice_get xs k ≡ Some x → key x ≡ s → ⊥

  sorted : (xs : List X) → AscendBy xs → IsSortedBy (λ x y. is_lt (by_both (key x) (key y))) xs
  sorted xs a k d z l = not_lower (key (get_or xs k d)) (key (get_or xs (k + 1) d))
      (ascends xs k (k + 1) (get_or xs k d) (get_or xs (k + 1) d) a (omega arith) (slice_get-get_or xs k d (omega arith)) (slice_get-get_or xs (k + 1) d l))

  pub searched : (xs : List X) (s : ℕ × ℕ) (r : Result ℕ ℕ) → AscendBy xs → IsSearchInRange r (length xs) → IsBinarySearchResult (λ x. by_both (key x) s) xs r → IsFound xs s r
  searched xs s (Ok k) a l h = elim (slice_get_cases xs k).1 [
    | inl t ↦ (t.0, t.2, equal_is (key t.0) s (ap (λ z. by_both (key z) s) (sym t.3) ∙ h t.0))
    | inr n ↦ absurd (omega (arith, l, n.0))
  ]
  searched xs s (Err i) a l h = λ k x q e.
      let parts = h (searchable_from_sorted both_total key xs s (sorted xs a)) in
      let tied : by_both (key (get_or xs k x)) s ≡ Equal = ap (λ z. by_both (key z) s) (get_or_from_slice_get xs k x x q) ∙ ap (λ z. by_both z s) e ∙ own s in
      elim (cases_lt k i) [
        | inl m ↦ (let off : Less ≡ Equal = sym (parts.0 k x (omega arith) m) ∙ tied in cc)
        | inr m ↦ (let off : Greater ≡ Equal = sym (parts.1 k x m (slice_get_within xs k x q)) ∙ tied in cc)
      ]

-- ---- listed pairs

pub by_states : (pairs : List PairRow) → AreAscending pairs → AscendBy states_of pairs
by_states [] a = tt
by_states (x ∷ pairs) a = (a.0, by_states pairs a.1)

pair_is : (x : PairRow) (i j : ℕ) → is_pair i j x ≡ true → states_of x ≡ (i, j)
pair_is x i j h = let p = and_parts (x.i == i) (x.j == j) h in ap (λ z. (z, x.j)) (eqb-true x.i i p.0) ∙ ap (λ z. (i, z)) (eqb-true x.j j p.1)

is_its : (x : PairRow) (i j : ℕ) → states_of x ≡ (i, j) → is_pair i j x ≡ true
is_its x i j e = and_from (x.i == i) (x.j == j) (eq-eqb x.i i (ap (λ z. z.0) e)) (eq-eqb x.j j (ap (λ z. z.1) e))

not_pair : (x : PairRow) (i j : ℕ) → (states_of x ≡ (i, j) → ⊥) → is_pair i j x ≡ false
not_pair x i j n =
    let P : Bool → Type 0 = λ b. is_pair i j x ≡ b → b ≡ false in
    on_test P (is_pair i j x) (λ t q. absurd (n (pair_is x i j q))) (λ t q. refl) refl

-- where no pair has these states, none is found
none_of : (pairs : List PairRow) (i j : ℕ) → ((k : ℕ) (x : PairRow) → slice_get pairs k ≡ Some x → states_of x ≡ (i, j) → ⊥) → find (is_pair i j) pairs ≡ None
none_of [] i j h = refl
none_of (x ∷ pairs) i j h = ap (λ b. cond b (Some x) (find (is_pair i j) pairs)) (not_pair x i j (h 0 x refl)) ∙ none_of pairs i j (λ k y q. h (suc k) y q)

-- a pair is the first of its states
pub first_of : (pairs : List PairRow) (i j k : ℕ) (x : PairRow) → AreAscending pairs → slice_get pairs k ≡ Some x → states_of x ≡ (i, j) → find (is_pair i j) pairs ≡ Some x
first_of [] i j k x a q e = cc
first_of (y ∷ pairs) i j zero x a q e =
    let same : y ≡ x = cc in
    ap (λ b. cond b (Some y) (find (is_pair i j) pairs)) (is_its y i j (ap states_of same ∙ e)) ∙ ap Some same
first_of (y ∷ pairs) i j (suc k) x a q e =
    ap (λ b. cond b (Some y) (find (is_pair i j) pairs))
    (not_pair y i j (λ f. once states_of (y ∷ pairs) 0 (suc k) y x (by_states (y ∷ pairs) a) (omega arith) refl q (f ∙ sym e)))
    ∙ first_of pairs i j k x a.1 q e

pub some_found : (pairs : List PairRow) (i j k : ℕ) (x : PairRow) → AreAscending pairs → slice_get pairs k ≡ Some x → states_of x ≡ (i, j)
    → Some x.g ≡ option_map (λ (s : PairRow). s.g) (find (is_pair i j) pairs)
some_found pairs i j k x a q e = sym (ap (option_map (λ (s : PairRow). s.g)) (first_of pairs i j k x a q e))

pub none_found : (pairs : List PairRow) (i j : ℕ) → ((k : ℕ) (x : PairRow) → slice_get pairs k ≡ Some x → states_of x ≡ (i, j) → ⊥)
    → None ≡ option_map (λ (s : PairRow). s.g) (find (is_pair i j) pairs)
none_found pairs i j h = sym (ap (option_map (λ (s : PairRow). s.g)) (none_of pairs i j h))
