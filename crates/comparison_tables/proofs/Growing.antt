-- One more row of tables.
use Rattle.std.proofs.Common.{◌≡◌, ◌≤◌, ◌<◌, ◌+◌, ℕ, zero, suc, inl, inr, List, [], ◌∷◌, ◌++◌, length, Option, Some, None, slice_get, sym, ap, ◌∙◌, subst, arith}
use Rattle.std.proofs.lemmas.Bool.{cases_lt}
use Rattle.std.proofs.lemmas.Option.{slice_get_within}
use Rattle.position_automata.specs.Automata.{states}
use Rattle.decl_set.specs.Asked.{IsKept}
use Rattle.decl_set.specs.Declarations.{Declarations, Element}
use Rattle.tree_costs.specs.declared.cost.Cost.{Cost}
use Rattle.least_trees.specs.declared.settled.SettledRow.{SettledRow}
use Rattle.bound_checker.specs.declared.tables.Row.{Row}
use Rattle.comparison_tables.specs.declared.sides.Side.{Side}
use Rattle.comparison_tables.specs.Plans.{own_states}
use Rattle.comparison_tables.specs.Rows.{row_from, IsRowOf, AreRows}
use Rattle.comparison_tables.specs.Sides.{FitSides, AreSides, Known, known_at}
use Rattle.comparison_tables.proofs.Knowing.{as_many, either_stands, is_known}
use Rattle.comparison_tables.proofs.Rowed.{got_first, got_last, one_longer}

-- no element has more pairs than are allowed
pub sides_few : (first second : Declarations) (es : List Element) (sides : List Side) (x : ℕ) (side : Side) → FitSides first second es sides → slice_get sides x ≡ Some side
    → length side.pairs ≤ 2000000
sides_few first second es [] x side f h = cc
sides_few first second [] (s ∷ sides) x side f h = elim f [ ]
sides_few first second (e ∷ es) (s ∷ sides) zero side f h =
    let same : s ≡ side = cc in
    subst (λ (z : Side). length z.pairs ≤ 2000000) same (f.0).few
sides_few first second (e ∷ es) (s ∷ sides) (suc x) side f h = sides_few first second es sides x side f.1 h

there : {A : Type 0} (xs : List A) (x : ℕ) → x < length xs → slice_get xs x ≡ None → ⊥
there [] x l q = omega arith
there (y ∷ xs) zero l q = cc
there (y ∷ xs) (suc x) l q = there xs x (omega arith) q

module _ (first second : Declarations) (sides : List Side) (settled : List (SettledRow Cost)) (kept : IsKept first) (S : AreSides first second sides) where
  -- the row that is read off at a place
  pub row_is : (x count n : ℕ) (side : Side) (own copy : SettledRow Cost) (row : Row) → slice_get sides x ≡ Some side → slice_get settled x ≡ Some own
      → slice_get settled (count + x) ≡ Some copy → count ≡ length first.elements → n ≡ own_states (slice_get first.elements x) → row ≡ row_from n side.pairs own copy
      → IsRowOf settled (length first.elements) (known_at first second sides x) x (Some row)
  row_is x count n side own copy row h o c q e r = elim (either_stands first second sides kept S x) [
    | inl s ↦
        let z : Some s.side ≡ Some side = sym s.side_there ∙ h in
        let same : s.side ≡ side = cc in
        let size : n ≡ states s.element.1 = e ∙ ap own_states s.there in
        subst (λ (k : Option Known). IsRowOf settled (length first.elements) k x (Some row)) (sym (is_known first second sides kept S x s)) (
          own,
          copy,
          o,
          ap (λ k. slice_get settled (k + x)) (sym q) ∙ c,
          ap (λ z. Some z) (r ∙ ap (λ k. row_from k side.pairs own copy) size ∙ ap (λ (k : Side). row_from (states s.element.1) k.pairs own copy) (sym same)),
        )
    | inr none ↦ absurd (there first.elements x (let l = slice_get_within sides x side h in omega (arith, l, as_many first second first.elements sides S)) none)
  ]

  pub rows_more : (n : ℕ) (rows : List Row) (row : Row) → AreRows first second sides settled n rows
      → IsRowOf settled (length first.elements) (known_at first second sides n) n (Some row) → AreRows first second sides settled (n + 1) (rows ++ row ∷ [])
  rows_more n rows row R h = record { size = omega (arith, R.size, one_longer rows row); each = each }
    where
      each : (x : ℕ) → x < n + 1 → IsRowOf settled (length first.elements) (known_at first second sides x) x (slice_get (rows ++ row ∷ []) x)
      each x l = elim (cases_lt x n) [
        | inl b ↦
            subst (λ (o : Option Row). IsRowOf settled (length first.elements) (known_at first second sides x) x o)
            (sym (got_first rows row x (omega (arith, b, R.size)))) (R.each x b)
        | inr b ↦
            let same : x ≡ n = omega arith in
            subst (λ (o : Option Row). IsRowOf settled (length first.elements) (known_at first second sides x) x o) (sym (got_last rows row x (omega (arith, same, R.size))))
            (subst (λ k. IsRowOf settled (length first.elements) (known_at first second sides k) k (Some row)) (sym same) h)
      ]
