-- The plan of a set: its elements by their places, each of weight 1, with the states and steps of their contents.
use Rattle.std.specs.Prelude.{ℕ, length, slice_get}
use Rattle.std.specs.Option.{option_map_or}
use Rattle.position_automata.specs.Automata.{states}
use Rattle.decl_set.specs.Declarations.{Declarations}
use Rattle.tree_costs.specs.Numbered.{numbers_of}
use Rattle.least_trees.specs.Plans.{Plan}

abbrev pub plan_of : Declarations → ℕ → Plan
plan_of set cap = record {
  count = length set.elements;
  states = λ e. option_map_or (λ x. states x.1) (slice_get set.elements e) 0;
  numbers = numbers_of set cap;
}
