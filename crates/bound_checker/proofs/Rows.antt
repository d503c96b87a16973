-- The row at the place of an element is its own, and fits it.
use Rattle.std.proofs.Common.{◌≡◌, ℕ, zero, suc, List, [], ◌∷◌, Some, None, refl, ap, ◌∙◌, subst, slice_get}
use Rattle.std.specs.Prelude.{option_and_then}
use Rattle.decl_set.specs.Declarations.{Declarations, Element}
use Rattle.decl_set.specs.Asked.{IsKept}
use Rattle.bound_checker.specs.declared.tables.Row.{Row}
use Rattle.bound_checker.specs.declared.tables.Tables.{Tables}
use Rattle.bound_checker.specs.Tabled.{FitsRow, FitRows, Fits, row_of}
use Rattle.tree_costs.proofs.Places.{is_at}

row_at : (cap : ℕ) (second : Declarations) (es : List Element) (rows : List Row) (n : ℕ) (x : Element) → FitRows cap second es rows → slice_get es n ≡ Some x
    → (row : Row) × (slice_get rows n ≡ Some row) × FitsRow cap second x.0 x.1 row
row_at cap second [] rows n x f h = cc
row_at cap second (y ∷ es) [] n x f h = elim f [ ]
row_at cap second (y ∷ es) (row ∷ rows) zero x f h = let same : y ≡ x = cc in (row, refl, subst (λ (z : Element). FitsRow cap second z.0 z.1 row) same f.0)
row_at cap second (y ∷ es) (row ∷ rows) (suc n) x f h = row_at cap second es rows n x f.1 h

-- where an element stands there is a row
pub no_row : (first second : Declarations) (tables : Tables) (n : ℕ) (x : Element) → Fits first second tables → slice_get first.elements n ≡ Some x
    → slice_get tables.rows n ≡ None → ⊥
no_row first second tables n x f h none = let t = row_at tables.cap second first.elements tables.rows n x f.rows h in let at = t.1 in cc

-- that row fits it
pub fits_at : (first second : Declarations) (tables : Tables) (n : ℕ) (x : Element) (row : Row) → Fits first second tables → slice_get first.elements n ≡ Some x
    → slice_get tables.rows n ≡ Some row → FitsRow tables.cap second x.0 x.1 row
fits_at first second tables n x row f h r =
    let t = row_at tables.cap second first.elements tables.rows n x f.rows h in
    let at = t.1 in
    let same : t.0 ≡ row = cc in
    subst (λ (y : Row). FitsRow tables.cap second x.0 x.1 y) same t.2

-- and is found by its name
pub row_is : (first : Declarations) (tables : Tables) (n : ℕ) (x : Element) (row : Row) → IsKept first → slice_get first.elements n ≡ Some x
    → slice_get tables.rows n ≡ Some row → row_of first tables x.0 ≡ Some row
row_is first tables n x row k h r = ap (option_and_then (slice_get tables.rows)) (is_at first k n x h).1 ∙ r
