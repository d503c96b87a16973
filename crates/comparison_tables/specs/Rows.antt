-- Rows of tables, read off the settled costs of an element and of its copy.
use Rattle.std.specs.Prelude.{◌≡◌, ◌<◌, ℕ, zero, suc, ◌+◌, List, [], ◌∷◌, ◌++◌, length, Option, Some, None, slice_get}
use Rattle.std.specs.Option.{option_map_or}
use Rattle.position_automata.specs.Automata.{states}
use Rattle.decl_set.specs.Declarations.{Declarations}
use Rattle.tree_costs.specs.declared.cost.Cost.{Cost}
use Rattle.tree_costs.specs.declared.cost.Cost.TheVariants.{Inf}
use Rattle.least_trees.specs.declared.settled.SettledRow.{SettledRow}
use Rattle.bound_checker.specs.declared.tables.StateRow.{StateRow}
use Rattle.bound_checker.specs.declared.tables.PairRow.{PairRow}
use Rattle.bound_checker.specs.declared.tables.Row.{Row}
use Rattle.comparison_tables.specs.declared.sides.Side.{Side}
use Rattle.comparison_tables.specs.Kinds.{wrong_number, pair_number}
use Rattle.comparison_tables.specs.Sides.{Known, known_at}

-- the cost at a place, and Inf past the last
abbrev pub cost_at : List Cost → ℕ → Cost
cost_at costs i = option_map_or (λ c. c) (slice_get costs i) Inf

-- P and F of a state; n is the number of states
abbrev pub state_row : ℕ → List Cost → List Cost → ℕ → StateRow
state_row n own copy i = record { p = cost_at own i; f = cost_at copy (wrong_number n i) }

-- those of the first states
abbrev pub state_rows : ℕ → List Cost → List Cost → ℕ → List StateRow
state_rows n own copy zero = []
state_rows n own copy (suc i) = state_rows n own copy i ++ state_row n own copy i ∷ []

-- G of the pair at a place
abbrev pub pair_row : ℕ → List Cost → ℕ → ℕ × ℕ → PairRow
pair_row n copy at pair = record { i = pair.0; j = pair.1; g = cost_at copy (pair_number n at) }

-- those of pairs that stand from this place on
abbrev pub pair_rows : ℕ → List Cost → ℕ → List (ℕ × ℕ) → List PairRow
pair_rows n copy at [] = []
pair_rows n copy at (pair ∷ pairs) = pair_row n copy at pair ∷ pair_rows n copy (suc at) pairs

-- the row of an element with n states and these pairs
abbrev pub row_from : ℕ → List (ℕ × ℕ) → SettledRow Cost → SettledRow Cost → Row
row_from n pairs own copy =
    record { m = own.m; v = copy.m; states = state_rows n own.p copy.p n; pairs = pair_rows n copy.p 0 pairs }

-- the row at a place is that of the element there
abbrev pub IsRowOf : List (SettledRow Cost) → ℕ → Option Known → ℕ → Option Row → Type 0
IsRowOf settled count None x o = ⊥
IsRowOf settled count (Some k) x o =
    (own : SettledRow Cost) × (copy : SettledRow Cost) × (slice_get settled x ≡ Some own) × (slice_get settled (count + x) ≡ Some copy)
    × (o ≡ Some (row_from (states k.content) k.pairs own copy))

-- the rows of the first n elements
pub record AreRows (first second : Declarations) (sides : List Side) (settled : List (SettledRow Cost)) (n : ℕ) (rows : List Row) : Type 0 where
  pub size : length rows ≡ n
  pub each : (x : ℕ) → x < n → IsRowOf settled (length first.elements) (known_at first second sides x) x (slice_get rows x)
