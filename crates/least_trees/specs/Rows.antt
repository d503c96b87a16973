-- Rows of settled values, and the costs that they stand for.
use Rattle.std.specs.Prelude.{◌≡◌, ◌<◌, ℕ, ◌+◌, ◌&&◌, List, length, take, drop, map, nat_lt, Option, Some, None, option_and_then, slice_get, slice_index_or, if◌then◌else◌}
use Rattle.std.specs.Option.{option_map_or}
use Rattle.tree_costs.specs.declared.cost.Cost.{Cost}
use Rattle.tree_costs.specs.declared.cost.Cost.TheVariants.{Inf}
use Rattle.tree_costs.specs.Graphs.{IsSolved}
use Rattle.tree_costs.specs.Numbered.{graph_of}
use Rattle.least_trees.specs.Plans.{Plan}
use Rattle.least_trees.specs.Rules.{at}
use Rattle.least_trees.specs.Spots.{base, first_spots}
use Rattle.least_trees.specs.declared.settled.SettledRow.{SettledRow}

-- the cost of an element by its spot, and Inf where there is none
abbrev pub m_in : Plan → List Cost → ℕ → Cost
m_in plan costs e = if nat_lt e plan.count then at costs (plan.count + e) else Inf

-- the cost of a state by its spot, and Inf where there is none
abbrev pub p_in : Plan → List Cost → ℕ → ℕ → Cost
p_in plan costs e i = if nat_lt e plan.count && nat_lt i (plan.states e) then at costs (base plan e + i) else Inf

-- the costs of the spots are the exact ones
pub record AreExact (plan : Plan) (costs : List Cost) (firsts : List ℕ) : Type 0 where
  pub size : length costs ≡ base plan plan.count
  pub firsts_are : firsts ≡ first_spots plan plan.count
  pub solved : IsSolved (graph_of plan.numbers) (m_in plan costs) (p_in plan costs)

-- the cost of an element by its row, and Inf where there is none
abbrev pub m_of : {V : Type 0} → (V → Cost) → List (SettledRow V) → ℕ → Cost
m_of cost rows e = option_map_or (λ row. cost row.m) (slice_get rows e) Inf

-- the cost of a state by its row, and Inf where there is none
abbrev pub p_of : {V : Type 0} → (V → Cost) → List (SettledRow V) → ℕ → ℕ → Cost
p_of cost rows e i = option_map_or cost (option_and_then (λ row. slice_get row.p i) (slice_get rows e)) Inf

-- a row for each element with a value for each of its states; the values stand for the exact costs
pub record IsSettled {V : Type 0} (plan : Plan) (cost : V → Cost) (rows : List (SettledRow V)) : Type 0 where
  pub count : length rows ≡ plan.count
  pub states : (e : ℕ) → e < plan.count → option_map_or (λ row. length row.p) (slice_get rows e) 0 ≡ plan.states e
  pub solved : IsSolved (graph_of plan.numbers) (m_of cost rows) (p_of cost rows)

-- the value at a place, and those of a range
pub record IsCut {V : Type 0} (values : List V) (at first count : ℕ) (m : V) (p : List V) : Type 0 where
  pub own : m ≡ slice_index_or values at m
  pub range : p ≡ take count (drop first values)

-- an element's row
abbrev pub IsRowOf : {V : Type 0} → Plan → List V → ℕ → Option (SettledRow V) → Type 0
IsRowOf plan values e None = ⊥
IsRowOf plan values e (Some row) = IsCut values (plan.count + e) (base plan e) (plan.states e) row.m row.p

-- the rows of the first n elements
pub record AreRows {V : Type 0} (plan : Plan) (values : List V) (n : ℕ) (rows : List (SettledRow V)) : Type 0 where
  pub size : length rows ≡ n
  pub each : (e : ℕ) → e < n → IsRowOf plan values e (slice_get rows e)
