-- Rows of steps on numbered names.
use Rattle.std.specs.Prelude.{◌≡◌, ◌<◌, length, slice_index_or, ℕ, List, [], Option, Some, None, option_map, bytes_eq, position, Contains, ◌↔◌}
use Rattle.std.specs.List.{filter_map, cons_option}
use Rattle.content_models.specs.declared.content.Content.{Content}
use Rattle.content_models.specs.Model.{Chars}
use Rattle.position_automata.specs.Automata.{states, FollowsOn}
use Rattle.position_automata.specs.Stepping.{step_on}

-- the number of a name: its place among the keys, where it is one of them
abbrev pub number_of : List Chars → Chars → Option ℕ
number_of keys name = position (bytes_eq name) keys

-- a step with the number of its name
abbrev pub numbered_step : List Chars → Chars × ℕ → Option (ℕ × ℕ)
numbered_step keys s = option_map {U = ℕ × ℕ} (λ n. (n, s.1)) (number_of keys s.0)

-- the steps on names that are keys, each with its number
abbrev pub numbered : List Chars → List (Chars × ℕ) → List (ℕ × ℕ)
numbered keys steps = filter_map (numbered_step keys) steps

-- a step on the name at a place, where that has a number
abbrev pub placed_step : List (Option ℕ) → ℕ → ℕ → List (ℕ × ℕ)
placed_step numbers at next = cons_option (option_map {U = ℕ × ℕ} (λ n. (n, next)) (slice_index_or numbers at None)) []

-- a number and a state, where both are there
abbrev pub both : Option ℕ → Option ℕ → Option (ℕ × ℕ)
both None next = None
both (Some n) None = None
both (Some n) (Some next) = Some (n, next)

-- the step on a name, with the name's number
abbrev pub asked_step : List Chars → Content → ℕ → Chars → Option (ℕ × ℕ)
asked_step keys content i name = both (number_of keys name) (step_on content i name)

-- the steps on each of these names
abbrev pub asked : List Chars → Content → ℕ → List Chars → List (ℕ × ℕ)
asked keys content i names = filter_map (asked_step keys content i) names

-- a step on the name with this number
abbrev pub StepsOn : List Chars → Content → ℕ → ℕ → ℕ → Type 0
StepsOn keys content i n j = (name : Chars) × (number_of keys name ≡ Some n) × FollowsOn content i name j

-- the row of a state: what follows on the names that are keys
abbrev pub IsRow : List Chars → Content → ℕ → List (ℕ × ℕ) → Type 0
IsRow keys content i row = (n j : ℕ) → Contains row (n, j) ↔ StepsOn keys content i n j

-- the rows of all states
pub record AreRows (keys : List Chars) (a : Content) (rows : List (List (ℕ × ℕ))) : Type 0 where
  pub count : length rows ≡ states a
  pub are : (i : ℕ) → i < states a → IsRow keys a i (slice_index_or rows i [])
