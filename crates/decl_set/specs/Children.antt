-- The elements that contents name, by their places in order of declaration.
use Rattle.std.specs.Prelude.{◌≡◌, ◌<◌, ℕ, List, length, map, position, bytes_eq, slice_get, Option}
use Rattle.std.specs.Option.{option_map}
use Rattle.content_models.specs.declared.content.Content.{Content}
use Rattle.position_automata.specs.Tables.{step_names}
use Rattle.decl_set.specs.Declarations.{Declarations, Element}

-- the place of the element of this name, where it is declared
abbrev pub place_in : List Element → List ℕ → Option ℕ
place_in elements name = position (λ e. bytes_eq name e.0) elements

-- a step, with the place of its element in the name's stead
abbrev pub child_step : Declarations → List ℕ × ℕ → Option ℕ × ℕ
child_step set step = (place_in set.elements step.0, step.1)

-- the places of the elements that a content names, in the order of the names
abbrev pub children_of : List Element → Content → List (Option ℕ)
children_of elements content = map (place_in elements) (step_names content)

-- these are the places that the first contents name, for as many as there are
abbrev pub AreChildren : List Element → List (List (Option ℕ)) → Type 0
AreChildren elements all = (e : ℕ) → e < length all → slice_get all e ≡ option_map (λ d. children_of elements d.1) (slice_get elements e)
