-- The steps of an element's states (XML 1.0, 3.2.1).
use Rattle.std.specs.Prelude.{◌≡◌, ℕ, Bool, true, false, ◌==◌, List, [], map, nat_lt, slice_get, Option, Some, None, option_map, if◌then◌else◌}
use Rattle.content_models.specs.declared.content.Content.{Content}
use Rattle.content_models.specs.declared.content.Content.TheVariants.{Empty, Any, Mixed, Children}
use Rattle.content_models.specs.Model.{model}
use Rattle.position_automata.specs.Automata.{states, TellsStep}
use Rattle.position_automata.specs.Judged.{name_at, positions_after}
use Rattle.position_automata.specs.Places.{letters}
use Rattle.decl_set.specs.Declarations.{Declarations, Element}

-- the k-th step from a state of a content, where there is such a state
abbrev pub TellsWithin : Bool → Content → ℕ → ℕ → Option (List ℕ × ℕ) → Type 0
TellsWithin true content state k step = TellsStep content state k step
TellsWithin false content state k step = step ≡ None

-- from ANY the steps are on the set's own elements, in order
abbrev pub any_step : Declarations → ℕ → ℕ → Option (List ℕ × ℕ)
any_step set state k = if state == 0 then option_map (λ e. (e.0, 0)) (slice_get set.elements k) else None

abbrev pub TellsStepIn : Declarations → Content → ℕ → ℕ → Option (List ℕ × ℕ) → Type 0
TellsStepIn set Any state k step = step ≡ any_step set state k
TellsStepIn set content state k step = TellsWithin (nat_lt state (states content)) content state k step

-- the k-th step from a state of the element at a place, where there is such an element
abbrev pub TellsStepAt : Declarations → Option Element → ℕ → ℕ → Option (List ℕ × ℕ) → Type 0
TellsStepAt set None state k step = step ≡ None
TellsStepAt set (Some e) state k step = TellsStepIn set e.1 state k step

-- ---- the same as functions

-- the steps of a state of a content, in order; from ANY one on each element of the set, in order
abbrev pub steps_in : Declarations → Content → ℕ → List (List ℕ × ℕ)
steps_in set Empty state = []
steps_in set Any state = if state == 0 then map (λ e. (e.0, 0)) set.elements else []
steps_in set (Mixed listed) state = if state == 0 then map (λ name. (name, 0)) listed else []
steps_in set (Children part) state = map (λ position. (name_at (letters (model part)) position, position)) (positions_after (model part) state)

-- those of the element at a place, and none where there is no element
abbrev pub steps_at : Declarations → Option Element → ℕ → List (List ℕ × ℕ)
steps_at set None state = []
steps_at set (Some e) state = steps_in set e.1 state
