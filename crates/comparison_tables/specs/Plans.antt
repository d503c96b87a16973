-- The plan of a comparison: the elements of the first by their places, each as it is in the set's own graph, then their
-- copies in the same order.
use Rattle.std.specs.Prelude.{ℕ, ◌+◌, ◌-◌, Bool, false, List, [], length, map, nat_lt, Option, slice_get, if◌then◌else◌}
use Rattle.std.specs.Option.{option_map_or}
use Rattle.position_automata.specs.Automata.{states}
use Rattle.position_automata.specs.Stepping.{does_accept}
use Rattle.decl_set.specs.Children.{child_step}
use Rattle.decl_set.specs.Declarations.{Declarations, Element}
use Rattle.decl_set.specs.Steps.{steps_at}
use Rattle.tree_costs.specs.Numbered.{Numbers}
use Rattle.least_trees.specs.Plans.{Plan, Step}
use Rattle.comparison_tables.specs.declared.sides.Side.{Side}
use Rattle.comparison_tables.specs.Sides.{Known, known_at}
use Rattle.comparison_tables.specs.Copies.{copy_states, copy_accepts, copy_steps}

-- ---- an element itself

abbrev pub own_states : Option Element → ℕ
own_states o = option_map_or (λ e. states e.1) o 0

abbrev pub own_accepts : Option Element → ℕ → Bool
own_accepts o i = option_map_or (λ e. does_accept e.1 i) o false

abbrev pub own_steps : Declarations → Option Element → ℕ → List Step
own_steps first o i = map (child_step first) (steps_at first o i)

-- ---- its copy

abbrev pub states_of_copy : Option Known → ℕ
states_of_copy o = option_map_or copy_states o 0

abbrev pub copy_accepts_at : Option Known → ℕ → Bool
copy_accepts_at o t = option_map_or (λ k. copy_accepts k t) o false

abbrev pub steps_of_copy : Declarations → Option Known → ℕ → List Step
steps_of_copy first o t = option_map_or (λ k. copy_steps first k (length first.elements) t) o []

-- ---- both

module _ (first second : Declarations) (sides : List Side) where
  abbrev pub is_own : ℕ → Bool
  is_own x = nat_lt x (length first.elements)

  abbrev pub known_of : ℕ → Option Known
  known_of x = known_at first second sides (x - length first.elements)

  abbrev pub numbers_of : ℕ → Numbers
  numbers_of cap = record {
    cap = cap;
    weight = λ x. 1;
    accepts = λ x t. if is_own x then own_accepts (slice_get first.elements x) t else copy_accepts_at (known_of x) t;
    steps = λ x t. if is_own x then own_steps first (slice_get first.elements x) t else steps_of_copy first (known_of x) t;
  }

  abbrev pub plan_of : ℕ → Plan
  plan_of cap = record {
    count = length first.elements + length first.elements;
    states = λ x. if is_own x then own_states (slice_get first.elements x) else states_of_copy (known_of x);
    numbers = numbers_of cap;
  }
