-- What a solver keeps that settles each spot once, and what it gives.
use Rattle.std.specs.Prelude.{◌≡◌, ℕ, List, [], ◌∷◌, length, Bool, true, false, ◌&&◌, if◌then◌else◌, ◌+◌}
use Rattle.tree_costs.specs.declared.cost.Cost.{Cost}
use Rattle.tree_costs.specs.Costs.{sum, AtMost, IsSmall}
use Rattle.least_trees.specs.declared.rules.Rule.{Rule}
use Rattle.least_trees.specs.Rules.{at, sum_of, is_done, Member}

-- what the rules build: a start, or a rule over what builds its two parts
pub data Built : Type 0 where
  start : ℕ → Built
  by : Rule → Built → Built → Built

abbrev pub root : Built → ℕ
root (start y) = y
root (by r a b) = r.target

abbrev pub value : ℕ → List Cost → Built → Cost
value cap starts (start y) = at starts y
value cap starts (by r a b) = sum cap (value cap starts a) (value cap starts b)

abbrev pub IsBuilt : List Rule → Built → Type 0
IsBuilt rules (start y) = Unit {0}
IsBuilt rules (by r a b) = Member r rules × (root a ≡ r.left) × (root b ≡ r.right) × IsBuilt rules a × IsBuilt rules b

-- the cost of something that the rules build at a spot
abbrev pub OfSpot : ℕ → List Rule → List Cost → ℕ → Cost → Type 0
OfSpot cap rules starts y c = (t : Built) × (root t ≡ y) × IsBuilt rules t × (c ≡ value cap starts t)

pub record Kept (cap : ℕ) (rules : List Rule) (starts : List Cost) (done : List Bool) (costs : List Cost) : Type 0 where
  pub length_same : length costs ≡ length starts
  pub attained : (y : ℕ) → OfSpot cap rules starts y (at costs y)
  pub small : (y : ℕ) → IsSmall cap (at costs y)
  pub below_start : (y : ℕ) → AtMost (at costs y) (at starts y)
  pub ordered : (y z : ℕ) → is_done done y ≡ true → is_done done z ≡ false → AtMost (at costs y) (at costs z)
  pub sums : (r : Rule) → Member r rules → is_done done r.left ≡ true → is_done done r.right ≡ true → AtMost (at costs r.target) (sum_of cap costs r)

abbrev pub both : List Bool → Rule → Bool
both done r = is_done done r.left && is_done done r.right

-- how many rules have a part that is not settled
abbrev pub pending : List Bool → List Rule → ℕ
pending done [] = 0
pending done (r ∷ rs) = (if both done r then 0 else 1) + pending done rs

-- each cost is that of something built, and no rule lowers one
pub record IsLowest (cap : ℕ) (rules : List Rule) (starts costs : List Cost) : Type 0 where
  pub length_same : length costs ≡ length starts
  pub attained : (y : ℕ) → OfSpot cap rules starts y (at costs y)
  pub below_start : (y : ℕ) → AtMost (at costs y) (at starts y)
  pub closed : (r : Rule) → Member r rules → AtMost (at costs r.target) (sum_of cap costs r)
  pub least : (t : Built) → IsBuilt rules t → AtMost (at costs (root t)) (value cap starts t)

-- no start is above what the cap allows
abbrev pub AllSmall : ℕ → List Cost → Type 0
AllSmall cap [] = Unit {0}
AllSmall cap (c ∷ cs) = IsSmall cap c × AllSmall cap cs

abbrev pub NoneDone : List Bool → Type 0
NoneDone done = (y : ℕ) → is_done done y ≡ false

-- how many spots are not settled
abbrev pub open_in : List Bool → ℕ
open_in [] = 0
open_in (b ∷ bs) = (if b then 0 else 1) + open_in bs
