-- What a graph of steps stands for.
use Rattle.std.specs.Prelude.{◌≡◌, ◌≤◌, ◌<◌, ℕ, zero, suc, ◌+◌, List, length, Option, Some, None, Contains, IsTrue}
use Rattle.tree_costs.specs.Numbered.{Numbers}

-- a step: on an element, or on a name that is none, and the state that it leads to
abbrev pub Step : Type 0
Step = Option ℕ × ℕ

-- how many elements there are, how many states each has, and their weights, acceptance and steps
pub record Plan : Type 0 where
  pub count : ℕ
  pub states : ℕ → ℕ
  pub numbers : Numbers

-- an element of the graph, or none
abbrev pub IsOn : ℕ → Option ℕ → Type 0
IsOn count None = Unit {0}
IsOn count (Some x) = x < count

-- the step leads to a state of the same element, and is on an element of the graph where it is on one
abbrev pub IsWithin : Plan → ℕ → Step → Type 0
IsWithin plan e step = (step.1 < plan.states e) × IsOn plan.count step.0

-- i is a state of an element
abbrev pub IsState : Plan → ℕ → ℕ → Type 0
IsState plan e i = (e < plan.count) × (i < plan.states e)

-- The cap is at most 100,000; each element has state 0, and a weight from 1 to one above the cap; what accepts and what has
-- steps is a state, and the steps stay within the graph.
pub record IsPlan (plan : Plan) : Type 0 where
  pub cap : plan.numbers.cap ≤ 100000
  pub starts : (e : ℕ) → e < plan.count → 0 < plan.states e
  pub positive : (e : ℕ) → e < plan.count → 1 ≤ plan.numbers.weight e
  pub light : (e : ℕ) → e < plan.count → plan.numbers.weight e ≤ plan.numbers.cap + 1
  pub accepting : (e i : ℕ) → IsTrue (plan.numbers.accepts e i) → IsState plan e i
  pub stepping : (e i : ℕ) (step : Step) → Contains (plan.numbers.steps e i) step → IsState plan e i
  pub within : (e i : ℕ) (step : Step) → Contains (plan.numbers.steps e i) step → IsWithin plan e step

-- ---- how large it is

-- the states of the first elements
abbrev pub states_below : Plan → ℕ → ℕ
states_below plan zero = 0
states_below plan (suc e) = states_below plan e + plan.states e

-- the steps of the first states of an element
abbrev pub steps_within : Plan → ℕ → ℕ → ℕ
steps_within plan e zero = 0
steps_within plan e (suc i) = steps_within plan e i + length (plan.numbers.steps e i)

-- the steps of the first elements
abbrev pub steps_below : Plan → ℕ → ℕ
steps_below plan zero = 0
steps_below plan (suc e) = steps_below plan e + steps_within plan e (plan.states e)

-- all states, and all steps
unfoldable pub states_in : Plan → ℕ
states_in plan = states_below plan plan.count

unfoldable pub steps_in : Plan → ℕ
steps_in plan = steps_below plan plan.count
