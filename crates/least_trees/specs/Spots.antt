-- The spots of a graph: the weights of the elements, the elements, and the states element by element; and its rules.
use Rattle.std.specs.Prelude.{◌≡◌, ℕ, zero, suc, ◌+◌, List, [], ◌∷◌, ◌++◌, Bool, true, false, Some, None, if◌then◌else◌}
use Rattle.tree_costs.specs.declared.cost.Cost.{Cost}
use Rattle.tree_costs.specs.declared.cost.Cost.TheVariants.{Fin, Inf}
use Rattle.least_trees.specs.declared.rules.Rule.{Rule}
use Rattle.least_trees.specs.Plans.{Plan, Step, states_below}

-- the spot of state 0 of an element
abbrev pub base : Plan → ℕ → ℕ
base plan e = plan.count + plan.count + states_below plan e

-- the spots of state 0 of the first elements
abbrev pub first_spots : Plan → ℕ → List ℕ
first_spots plan zero = []
first_spots plan (suc e) = first_spots plan e ++ base plan e ∷ []

-- ---- the costs to begin with: a weight, and 0 where a state accepts

abbrev pub weight_starts : Plan → ℕ → List Cost
weight_starts plan zero = []
weight_starts plan (suc e) = weight_starts plan e ++ Fin (plan.numbers.weight e) ∷ []

abbrev pub top_starts : ℕ → List Cost
top_starts zero = []
top_starts (suc e) = top_starts e ++ Inf ∷ []

abbrev pub start_of : Plan → ℕ → ℕ → Cost
start_of plan e i = if plan.numbers.accepts e i then Fin 0 else Inf

abbrev pub state_starts : Plan → ℕ → ℕ → List Cost
state_starts plan e zero = []
state_starts plan e (suc i) = state_starts plan e i ++ start_of plan e i ∷ []

abbrev pub element_starts : Plan → ℕ → List Cost
element_starts plan zero = []
element_starts plan (suc e) = element_starts plan e ++ state_starts plan e (plan.states e)

abbrev pub all_starts : Plan → List Cost
all_starts plan = weight_starts plan plan.count ++ top_starts plan.count ++ element_starts plan plan.count

-- the costs to begin with, and where the states of each element begin
pub record IsSpots (plan : Plan) (starts : List Cost) (firsts : List ℕ) : Type 0 where
  pub starts_are : starts ≡ all_starts plan
  pub firsts_are : firsts ≡ first_spots plan plan.count

-- ---- the rules

-- an element costs its weight and what its state 0 does
abbrev pub top_rule : Plan → ℕ → Rule
top_rule plan e = record { target = plan.count + e; left = e; right = base plan e }

-- a state costs what a step's element and the state after it do; a step on a name that is none gives no rule
abbrev pub step_rules : ℕ → ℕ → ℕ → Step → List Rule
step_rules count first i (None, j) = []
step_rules count first i (Some x, j) = record { target = first + i; left = count + x; right = first + j } ∷ []

abbrev pub rules_of_steps : ℕ → ℕ → ℕ → List Step → List Rule
rules_of_steps count first i [] = []
rules_of_steps count first i (step ∷ steps) = step_rules count first i step ++ rules_of_steps count first i steps

-- a state that accepts costs 0, whatever its steps are
abbrev pub state_rules : Plan → ℕ → ℕ → List Rule
state_rules plan e i = if plan.numbers.accepts e i then [] else rules_of_steps plan.count (base plan e) i (plan.numbers.steps e i)

abbrev pub rules_within : Plan → ℕ → ℕ → List Rule
rules_within plan e zero = []
rules_within plan e (suc i) = rules_within plan e i ++ state_rules plan e i

abbrev pub rules_below : Plan → ℕ → List Rule
rules_below plan zero = []
rules_below plan (suc e) = (rules_below plan e ++ top_rule plan e ∷ []) ++ rules_within plan e (plan.states e)

abbrev pub all_rules : Plan → List Rule
all_rules plan = rules_below plan plan.count
