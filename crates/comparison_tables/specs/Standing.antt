-- What the numbers of a comparison's plan stand for, and the costs that they give.
use Rattle.std.specs.Prelude.{ℕ, ◌+◌, ◌-◌, List, [], length, nat_lt, Option, Some, None, option_and_then, option_map, slice_get, if◌then◌else◌}
use Rattle.std.specs.Option.{option_map_or}
use Rattle.content_models.specs.Model.{Chars}
use Rattle.position_automata.specs.Automata.{states}
use Rattle.decl_set.specs.Declarations.{Declarations, Element}
use Rattle.tree_costs.specs.declared.cost.Cost.{Cost}
use Rattle.tree_costs.specs.declared.cost.Cost.TheVariants.{Inf}
use Rattle.tree_costs.specs.Leasts.{place_of}
use Rattle.exact_tables.specs.Comparing.{Elem, Plain, Copy, State, comparison}
use Rattle.exact_tables.specs.Comparing as to
use Rattle.comparison_tables.specs.declared.kinds.Kind.{Kind}
use Rattle.comparison_tables.specs.declared.kinds.Kind.TheVariants.{Start, Go, Wrong, Pair, Beyond}
use Rattle.comparison_tables.specs.declared.sides.Side.{Side}
use Rattle.comparison_tables.specs.Kinds.{go_number, wrong_number, pair_number}
use Rattle.comparison_tables.specs.Sides.{Known, known_at, pair_place}
use Rattle.comparison_tables.specs.Copies.{kind_in}
use Rattle.comparison_tables.specs.Plans.{is_own, known_of}

-- the name of an element, and no name past the end
abbrev pub name_in : Option Element → Chars
name_in None = []
name_in (Some e) = e.0

-- what a state of a copy is for; past its states none accepts and none steps
abbrev pub meaning : ℕ → Kind → State
meaning n Start = to.Start
meaning n (Go i) = to.Go i
meaning n (Wrong i) = to.Fs i
meaning n (Pair i j) = to.Gs i j
meaning n Beyond = to.Fs n

abbrev pub copy_state : Option Known → ℕ → State
copy_state None t = to.Start
copy_state (Some k) t = meaning (states k.content) (kind_in k t)

-- ---- the numbers of what they stand for

abbrev pub among_states : ℕ → ℕ → ℕ → Option ℕ
among_states n i number = if nat_lt i n then Some number else None

abbrev pub number_in : Known → State → Option ℕ
number_in k to.Start = Some 0
number_in k (to.Go i) = among_states (states k.content) i (go_number i)
number_in k (to.Fs i) = among_states (states k.content) i (wrong_number (states k.content) i)
number_in k (to.Gs i j) = option_map (pair_number (states k.content)) (pair_place k.pairs i j)

module _ (first second : Declarations) (sides : List Side) where
  -- the element of a number
  abbrev pub label : ℕ → Elem
  label x = if is_own first second sides x then Plain (name_in (slice_get first.elements x)) else Copy (name_in (slice_get first.elements (x - length first.elements)))

  -- its state of a number
  abbrev pub state : ℕ → ℕ → State
  state x t = if is_own first second sides x then to.Go t else copy_state (known_of first second sides x) t

  abbrev pub number : Elem → Option ℕ
  number (Plain e) = place_of first e
  number (Copy e) = option_map (λ x. length first.elements + x) (place_of first e)

  abbrev pub copy_number : ℕ → State → Option (ℕ × ℕ)
  copy_number x s = option_map {U = ℕ × ℕ} (λ t. (length first.elements + x, t)) (option_and_then (λ k. number_in k s) (known_at first second sides x))

  abbrev pub state_number : Elem → State → Option (ℕ × ℕ)
  state_number (Plain e) (to.Go i) = option_map {U = ℕ × ℕ} (λ x. (x, i)) (place_of first e)
  state_number (Plain e) s = None
  state_number (Copy e) s = option_and_then (λ x. copy_number x s) (place_of first e)

  -- the costs by numbers, and Inf where there is none
  abbrev pub cost_by : (ℕ → Cost) → Elem → Cost
  cost_by m v = option_map_or m (number v) Inf

  abbrev pub state_cost_by : (ℕ → ℕ → Cost) → Elem → State → Cost
  state_cost_by p v w = option_map_or (λ n. p n.0 n.1) (state_number v w) Inf
