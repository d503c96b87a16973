-- Rules over numbered spots: the cost of a rule's target is at most the sum of those of its two parts.
use Rattle.std.specs.Prelude.{◌≡◌, ℕ, List, [], ◌∷◌, length, Bool, true, false, ◌≤◌, ◌<◌, min, slice_set, ◌&&◌, ◌||◌, not, ◌==◌, if◌then◌else◌, slice_index_or, ◌⊎◌, ◌+◌}
use Rattle.tree_costs.specs.declared.cost.Cost.{Cost}
use Rattle.tree_costs.specs.declared.cost.Cost.TheVariants.{Fin, Inf}
use Rattle.tree_costs.specs.Costs.{sum, AtMost}
use Rattle.least_trees.specs.declared.rules.Rule.{Rule}

-- the one cost is less than the other
abbrev pub IsLess : Cost → Cost → Type 0
IsLess (Fin a) (Fin b) = a < b
IsLess (Fin a) Inf = Unit {0}
IsLess Inf c = ⊥

abbrev pub lesser : Cost → Cost → Cost
lesser (Fin a) (Fin b) = Fin (min a b)
lesser (Fin a) Inf = Fin a
lesser Inf d = d

-- the cost of a spot
abbrev pub at : List Cost → ℕ → Cost
at costs x = slice_index_or costs x Inf

abbrev pub sum_of : ℕ → List Cost → Rule → Cost
sum_of cap costs r = sum cap (at costs r.left) (at costs r.right)

-- the costs after the rule's target is lowered to the sum of its parts
unfoldable pub relaxed : ℕ → Rule → List Cost → List Cost
relaxed cap r costs = slice_set costs r.target (lesser (sum_of cap costs r) (at costs r.target))

abbrev pub is_done : List Bool → ℕ → Bool
is_done done x = slice_index_or done x false

-- both parts are settled, x is one of them, and the target is not settled
abbrev pub applies : List Bool → ℕ → Rule → Bool
applies done x r =
    (r.left == x || r.right == x) && (is_done done r.left && (is_done done r.right && not (is_done done r.target)))

-- the costs after each rule that applies, in turn
abbrev pub lower_all : ℕ → List Bool → ℕ → List Rule → List Cost → List Cost
lower_all cap done x [] costs = costs
lower_all cap done x (r ∷ rs) costs =
    lower_all cap done x rs (if applies done x r then relaxed cap r costs else costs)

-- how many rules apply
abbrev pub applied : List Bool → ℕ → List Rule → ℕ
applied done x [] = 0
applied done x (r ∷ rs) = (if applies done x r then 1 else 0) + applied done x rs

-- the rule speaks of spots alone, and its left part comes before the right one
abbrev pub InRange : ℕ → Rule → Type 0
InRange n r = (r.target < n) × (r.left < r.right) × (r.right < n)

abbrev pub AllIn : ℕ → List Rule → Type 0
AllIn n [] = Unit {0}
AllIn n (r ∷ rs) = InRange n r × AllIn n rs

abbrev pub Member : {A : Type 0} → A → List A → Type 0
Member x [] = ⊥
Member x (y ∷ ys) = (x ≡ y) ⊎ Member x ys

-- what one pass of lowering leaves
pub record Lowers (cap : ℕ) (done : List Bool) (x : ℕ) (rules : List Rule) (costs new : List Cost) : Type 0 where
  pub length_same : length new ≡ length costs
  pub lower : (y : ℕ) → AtMost (at new y) (at costs y)
  pub settled : (y : ℕ) → is_done done y ≡ true → at new y ≡ at costs y
  pub from : (y : ℕ) → (at new y ≡ at costs y)
      ⊎ ((r : Rule) × Member r rules × (applies done x r ≡ true) × (r.target ≡ y) × (at new y ≡ sum_of cap costs r))
  pub sums : (r : Rule) → Member r rules → applies done x r ≡ true → AtMost (at new r.target) (sum_of cap costs r)
