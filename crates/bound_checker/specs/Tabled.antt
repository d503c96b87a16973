-- Tables of costs, and what they say of each element, state and pair.
use Rattle.std.specs.Prelude.{◌≡◌, ◌≤◌, ◌<◌, ◌==◌, ℕ, Bool, ◌&&◌, List, [], ◌∷◌, Option, Some, None, option_and_then, position, slice_get, length, find, bytes_eq, ◌⊎◌}
use Rattle.std.specs.Option.{option_map_or}
use Rattle.std.specs.List.{AllByRecursion}
use Rattle.content_models.specs.declared.content.Content.{Content}
use Rattle.content_models.specs.Model.{Chars}
use Rattle.position_automata.specs.Automata.{states}
use Rattle.decl_set.specs.Declarations.{Declarations, content_in}
use Rattle.tree_costs.specs.declared.cost.Cost.{Cost}
use Rattle.tree_costs.specs.declared.cost.Cost.TheVariants.{Fin, Inf}
use Rattle.bound_checker.specs.declared.tables.StateRow.{StateRow}
use Rattle.bound_checker.specs.declared.tables.PairRow.{PairRow}
use Rattle.bound_checker.specs.declared.tables.Row.{Row}
use Rattle.bound_checker.specs.declared.tables.Tables.{Tables}
use Rattle.tree_costs.specs.Costs.{IsSmall}

-- costs of elements, of their states and of their pairs
pub record Costs : Type 0 where
  pub m : Chars → Cost
  pub v : Chars → Cost
  pub p : Chars → ℕ → Cost
  pub f : Chars → ℕ → Cost
  pub g : Chars → ℕ → ℕ → Cost

-- the row of an element
abbrev pub row_of : Declarations → Tables → Chars → Option Row
row_of first tables e = option_and_then (slice_get tables.rows) (position (λ x. bytes_eq e x.0) first.elements)

abbrev pub state_of : Row → ℕ → Option StateRow
state_of row i = slice_get row.states i

-- the states of a pair
abbrev pub states_of : PairRow → ℕ × ℕ
states_of pair = (pair.i, pair.j)

abbrev pub is_pair : ℕ → ℕ → PairRow → Bool
is_pair i j pair = pair.i == i && pair.j == j

-- what the tables say: Inf for what has no row, and 0 for a pair that is not listed
abbrev pub costs_of : Declarations → Tables → Costs
costs_of first tables = record {
  m = λ e. option_map_or (λ row. row.m) (row_of first tables e) Inf;
  v = λ e. option_map_or (λ row. row.v) (row_of first tables e) Inf;
  p = λ e i. option_map_or (λ s. s.p) (option_and_then (λ row. state_of row i) (row_of first tables e)) Inf;
  f = λ e i. option_map_or (λ s. s.f) (option_and_then (λ row. state_of row i) (row_of first tables e)) Inf;
  g = λ e i j. option_map_or (λ s. s.g) (option_and_then (λ row. find (is_pair i j) row.pairs) (row_of first tables e)) (Fin 0);
}

-- the pair comes before the other
abbrev pub IsBefore : PairRow → PairRow → Type 0
IsBefore x y = (x.i < y.i) ⊎ ((x.i ≡ y.i) × (x.j < y.j))

abbrev pub AreAscending : List PairRow → Type 0
AreAscending [] = Unit {0}
AreAscending (x ∷ xs) = AllByRecursion (IsBefore x) xs × AreAscending xs

-- a pair of states of both contents
abbrev pub IsPair : ℕ → Content → Option Content → PairRow → Type 0
IsPair cap a None pair = ⊥
IsPair cap a (Some b) pair = (pair.i < states a) × (pair.j < states b) × IsSmall cap pair.g

pub record FitsRow (cap : ℕ) (second : Declarations) (e : Chars) (a : Content) (row : Row) : Type 0 where
  pub m : IsSmall cap row.m
  pub v : IsSmall cap row.v
  pub count : length row.states ≡ states a
  pub p : AllByRecursion (λ s. IsSmall cap s.p) row.states
  pub f : AllByRecursion (λ s. IsSmall cap s.f) row.states
  pub pairs : AllByRecursion (IsPair cap a (content_in second e)) row.pairs
  pub ascending : AreAscending row.pairs

-- a row for each element, in order
abbrev pub FitRows : ℕ → Declarations → List (Chars × Content) → List Row → Type 0
FitRows cap second [] [] = Unit {0}
FitRows cap second [] (row ∷ rows) = ⊥
FitRows cap second (e ∷ es) [] = ⊥
FitRows cap second (e ∷ es) (row ∷ rows) = FitsRow cap second e.0 e.1 row × FitRows cap second es rows

-- the tables have the shape of the sets
pub record Fits (first second : Declarations) (tables : Tables) : Type 0 where
  pub root : (a : Content) × (content_in first tables.root ≡ Some a)
  pub cap : tables.cap ≤ 100000
  pub rows : FitRows tables.cap second first.elements tables.rows
