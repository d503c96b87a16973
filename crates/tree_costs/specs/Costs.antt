-- Costs: a number up to one above a cap, or none at all.
use Rattle.std.specs.Prelude.{◌≡◌, ◌≤◌, ℕ, ◌+◌, Bool, true, false, nat_le, min, ◌⊎◌, List, [], ◌∷◌}
use Rattle.tree_costs.specs.declared.cost.Cost.{Cost}
use Rattle.tree_costs.specs.declared.cost.Cost.TheVariants.{Fin, Inf}

-- the cost is at most this size; Inf is at most none
abbrev pub Bounds : Cost → ℕ → Type 0
Bounds (Fin k) n = k ≤ n
Bounds Inf n = ⊥

-- the one cost is at most the other; Inf is the greatest
abbrev pub AtMost : Cost → Cost → Type 0
AtMost (Fin a) (Fin b) = a ≤ b
AtMost Inf (Fin b) = ⊥
AtMost c Inf = Unit {0}

-- the same as a test
abbrev pub at_most : Cost → Cost → Bool
at_most (Fin a) (Fin b) = nat_le a b
at_most Inf (Fin b) = false
at_most c Inf = true

abbrev pub cut_at : ℕ → ℕ → ℕ
cut_at cap n = min n (cap + 1)

-- a number as a cost: all that are above the cap are one above it
abbrev pub cut : ℕ → ℕ → Cost
cut cap n = Fin (cut_at cap n)

-- the sum, cut; Inf absorbs
abbrev pub sum : ℕ → Cost → Cost → Cost
sum cap (Fin a) (Fin b) = cut cap (a + b)
sum cap (Fin a) Inf = Inf
sum cap Inf b = Inf

-- the costs of these together
abbrev pub total : {A : Type 0} → ℕ → (A → Cost) → List A → Cost
total cap m [] = Fin 0
total cap m (x ∷ xs) = sum cap (m x) (total cap m xs)

-- the cost is Inf, or at most one above the cap
abbrev pub IsSmall : ℕ → Cost → Type 0
IsSmall cap c = (c ≡ Inf) ⊎ AtMost c (Fin (cap + 1))

-- c is the least of a family of costs, and Inf where no cost of the family is finite
abbrev pub IsLeast : (Cost → Type 0) → Cost → Type 0
IsLeast L c = ((d : Cost) → L d → AtMost c d) × ((c ≡ Inf) ⊎ L c)
