-- What rows say that are read off settled costs.
use Rattle.std.proofs.Common.{◌≡◌, ◌≤◌, ◌<◌, ◌+◌, ℕ, zero, suc, ◌⊎◌, inl, inr, List, [], ◌∷◌, ◌++◌, length, map, Bool, true, false, cond, find, Some, None, slice_get, refl, sym, ap, ◌∙◌, subst, arith}
use Rattle.std.specs.List.{AllByRecursion}
use Rattle.model_inclusion.specs.Listed.{Precedes, IsAscending}
use Rattle.tree_costs.specs.declared.cost.Cost.{Cost}
use Rattle.bound_checker.specs.declared.tables.StateRow.{StateRow}
use Rattle.bound_checker.specs.declared.tables.PairRow.{PairRow}
use Rattle.bound_checker.specs.Tabled.{states_of, is_pair, IsBefore, AreAscending}
use Rattle.bound_checker.proofs.Halves.{all_got}
use Rattle.comparison_tables.specs.Rows.{state_row, state_rows, pair_row, pair_rows}
use Rattle.comparison_tables.specs.Sides.{is_at}
use Rattle.comparison_tables.proofs.Halves.{at_is, is_own}

-- ---- lists that grow at their end

pub got_first : {A : Type 0} (xs : List A) (y : A) (i : ℕ) → i < length xs → slice_get (xs ++ y ∷ []) i ≡ slice_get xs i
got_first [] y i l = absurd (omega arith)
got_first (x ∷ xs) y zero l = refl
got_first (x ∷ xs) y (suc i) l = got_first xs y i (omega arith)

pub got_last : {A : Type 0} (xs : List A) (y : A) (i : ℕ) → i ≡ length xs → slice_get (xs ++ y ∷ []) i ≡ Some y
got_last [] y zero l = refl
got_last [] y (suc i) l = absurd (omega arith)
got_last (x ∷ xs) y zero l = absurd (omega arith)
got_last (x ∷ xs) y (suc i) l = got_last xs y i (omega arith)

pub got_past : {A : Type 0} (xs : List A) (i : ℕ) → length xs ≤ i → slice_get xs i ≡ None
got_past [] i l = refl
got_past (x ∷ xs) zero l = absurd (omega arith)
got_past (x ∷ xs) (suc i) l = got_past xs i (omega arith)

pub one_longer : {A : Type 0} (xs : List A) (y : A) → length (xs ++ y ∷ []) ≡ length xs + 1
one_longer [] y = refl
one_longer (x ∷ xs) y = omega (arith, one_longer xs y)

all_more : {A : Type 0} (Q : A → Type 0) (xs : List A) (y : A) → AllByRecursion Q xs → Q y → AllByRecursion Q (xs ++ y ∷ [])
all_more Q [] y a q = (q, tt)
all_more Q (x ∷ xs) y a q = (a.0, all_more Q xs y a.1 q)

-- ---- the rows of states

module _ (n : ℕ) (own copy : List Cost) where
  pub states_count : (c : ℕ) → length (state_rows n own copy c) ≡ c
  states_count zero = refl
  states_count (suc c) = omega (arith, one_longer (state_rows n own copy c) (state_row n own copy c), states_count c)

  pub state_at : (c i : ℕ) → i < c → slice_get (state_rows n own copy c) i ≡ Some (state_row n own copy i)
  state_at zero i l = absurd (omega arith)
  state_at (suc c) i l = elim (same_or_below i c (omega arith)) [
    | inl e ↦
        got_last (state_rows n own copy c) (state_row n own copy c) i (omega (arith, e, states_count c)) ∙ ap (λ z. Some (state_row n own copy z)) (sym e)
    | inr m ↦ got_first (state_rows n own copy c) (state_row n own copy c) i (omega (arith, m, states_count c)) ∙ state_at c i m
  ]
    where
      same_or_below : (i c : ℕ) → i < suc c → (i ≡ c) ⊎ (i < c)
      same_or_below zero zero l = inl refl
      same_or_below zero (suc c) l = inr (omega arith)
      same_or_below (suc i) zero l = absurd (omega arith)
      same_or_below (suc i) (suc c) l = elim (same_or_below i c (omega arith)) [ inl e ↦ inl (ap suc e) | inr m ↦ inr (omega arith) ]

  pub state_past : (c i : ℕ) → c ≤ i → slice_get (state_rows n own copy c) i ≡ None
  state_past c i l = got_past (state_rows n own copy c) i (omega (arith, states_count c))

  pub states_all : (Q : StateRow → Type 0) (c : ℕ) → ((i : ℕ) → Q (state_row n own copy i)) → AllByRecursion Q (state_rows n own copy c)
  states_all Q zero h = tt
  states_all Q (suc c) h = all_more Q (state_rows n own copy c) (state_row n own copy c) (states_all Q c h) (h c)

-- ---- the rows of pairs

module _ (n : ℕ) (copy : List Cost) where
  pub find_none : (i j at : ℕ) (pairs : List (ℕ × ℕ)) → ((l : ℕ) (y : ℕ × ℕ) → slice_get pairs l ≡ Some y → is_at i j y ≡ false)
      → find (is_pair i j) (pair_rows n copy at pairs) ≡ None
  find_none i j at [] h = refl
  find_none i j at (p ∷ pairs) h =
      ap (λ b. cond b (Some (pair_row n copy at p)) (find (is_pair i j) (pair_rows n copy (suc at) pairs))) (h 0 p refl)
      ∙ find_none i j (suc at) pairs (λ l y q. h (suc l) y q)

  apart : (i j : ℕ) (p : ℕ × ℕ) → Precedes p (i, j) → is_at i j p ≡ false
  apart i j p h = by (is_at i j p) refl
    where
      no : Precedes p (i, j) → (p.0 ≡ i) × (p.1 ≡ j) → ⊥
      no (inl l) e = omega (arith, e.0)
      no (inr l) e = omega (arith, l.1, e.1)

      by : (b : Bool) → is_at i j p ≡ b → is_at i j p ≡ false
      by true q = absurd (no h (at_is p i j q))
      by false q = q

  pub find_some : (i j at k : ℕ) (pairs : List (ℕ × ℕ)) → IsAscending pairs → slice_get pairs k ≡ Some (i, j)
      → find (is_pair i j) (pair_rows n copy at pairs) ≡ Some (pair_row n copy (at + k) (i, j))
  find_some i j at k [] a q = cc
  find_some i j at zero (p ∷ pairs) a q =
      let same : p ≡ (i, j) = cc in
      let e : at ≡ at + 0 = omega arith in
      ap (λ b. cond b (Some (pair_row n copy at p)) (find (is_pair i j) (pair_rows n copy (suc at) pairs))) (ap (is_at i j) same ∙ is_own i j)
      ∙ ap (λ z. Some (pair_row n copy at z)) same ∙ ap (λ z. Some (pair_row n copy z (i, j))) e
  find_some i j at (suc k) (p ∷ pairs) a q =
      let e : suc at + k ≡ at + suc k = omega arith in
      ap (λ b. cond b (Some (pair_row n copy at p)) (find (is_pair i j) (pair_rows n copy (suc at) pairs))) (apart i j p (all_got (Precedes p) pairs k (i, j) a.0 q))
      ∙ find_some i j (suc at) k pairs a.1 q ∙ ap (λ z. Some (pair_row n copy z (i, j))) e

  pub pairs_all : (Q : PairRow → Type 0) (at : ℕ) (pairs : List (ℕ × ℕ)) → ((l : ℕ) (y : ℕ × ℕ) → slice_get pairs l ≡ Some y → Q (pair_row n copy (at + l) y))
      → AllByRecursion Q (pair_rows n copy at pairs)
  pairs_all Q at [] h = tt
  pairs_all Q at (p ∷ pairs) h =
      let e : at + 0 ≡ at = omega arith in (
        subst (λ z. Q (pair_row n copy z p)) e (h 0 p refl),
        pairs_all Q (suc at) pairs (λ l y q. let f : at + suc l ≡ suc at + l = omega arith in subst (λ z. Q (pair_row n copy z y)) f (h (suc l) y q)),
      )

  before_all : (p : ℕ × ℕ) (at b : ℕ) (pairs : List (ℕ × ℕ)) → AllByRecursion (Precedes p) pairs → AllByRecursion (IsBefore (pair_row n copy b p)) (pair_rows n copy at pairs)
  before_all p at b [] h = tt
  before_all p at b (x ∷ pairs) h = (h.0, before_all p (suc at) b pairs h.1)

  pub rows_ascend : (at : ℕ) (pairs : List (ℕ × ℕ)) → IsAscending pairs → AreAscending (pair_rows n copy at pairs)
  rows_ascend at [] h = tt
  rows_ascend at (p ∷ pairs) h = (before_all p (suc at) at pairs h.0, rows_ascend (suc at) pairs h.1)

  pub rows_states : (at : ℕ) (pairs : List (ℕ × ℕ)) → map states_of (pair_rows n copy at pairs) ≡ pairs
  rows_states at [] = refl
  rows_states at (p ∷ pairs) = ap (λ z. p ∷ z) (rows_states (suc at) pairs)
