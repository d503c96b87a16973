-- Acceptance and steps of the states of a content, as functions (XML 1.0, 3.2.1).
use Rattle.std.specs.Prelude.{◌≡◌, ◌≤◌, ◌<◌, ℕ, ◌==◌, Bool, List, [], length, map, Option, Some, None, Contains, find, nat_eq, bytes_eq, slice_get, if◌then◌else◌, IsTrue, ◌↔◌}
use Rattle.std.specs.List.{list_any}
use Rattle.std.specs.Option.{option_map}
use Rattle.content_models.specs.declared.content.Content.{Content}
use Rattle.content_models.specs.declared.content.Content.TheVariants.{Empty, Any, Mixed, Children}
use Rattle.content_models.specs.Model.{Chars, model, among}
use Rattle.content_models.specs.Proper.{IsProper}
use Rattle.content_models.specs.Re.{Re}
use Rattle.position_automata.specs.Automata.{states, IsDeterministic, FollowsOn, Accepts, IsStep, IsSteps}
use Rattle.position_automata.specs.Judged.{name_at, positions_after}
use Rattle.position_automata.specs.Places.{nullable, lasts, letters}

-- whether a list of names may end in state i
abbrev pub does_accept : Content → ℕ → Bool
does_accept (Children part) i = if i == 0 then nullable (model part) else list_any (nat_eq i) (lasts 1 (model part))
does_accept content i = i == 0

-- the positions that may come next from state i of a model, each with its name
abbrev pub model_steps : Re Chars → ℕ → List (Chars × ℕ)
model_steps r i = map (λ j. (name_at (letters r) j, j)) (positions_after r i)

-- the steps of state i in their order: of a model by position, of mixed content as its names are listed; none at ANY, which
-- knows no names
abbrev pub steps_of : Content → ℕ → List (Chars × ℕ)
steps_of Empty i = []
steps_of Any i = []
steps_of (Mixed listed) i = if i == 0 then map (λ name. (name, 0)) listed else []
steps_of (Children part) i = model_steps (model part) i

-- the first state that follows on this name from state i
abbrev pub step_on : Content → ℕ → Chars → Option ℕ
step_on Empty i name = None
step_on Any i name = if i == 0 then Some 0 else None
step_on (Mixed listed) i name = if i == 0 then (if among listed name then Some 0 else None) else None
step_on (Children part) i name = find (λ j. bytes_eq name (name_at (letters (model part)) j)) (positions_after (model part) i)

-- a place among names with the state that follows, read as the name at that place
abbrev pub named : List Chars → Option (ℕ × ℕ) → Option (Chars × ℕ)
named names None = None
named names (Some s) = option_map {U = Chars × ℕ} (λ name. (name, s.1)) (slice_get names s.0)

-- ---- what they say

-- the content tells its steps: it is not ANY
abbrev pub TellsSteps : Content → Type 0
TellsSteps Any = ⊥
TellsSteps content = Unit {0}

-- the test tells which states accept
abbrev pub AcceptsByTest : Type 0
AcceptsByTest = (content : Content) (i : ℕ) → IsTrue (does_accept content i) ↔ Accepts content i

-- the steps of a state are these and no others
abbrev pub StepsAreTold : Type 0
StepsAreTold = (content : Content) (i : ℕ) (steps : List (Chars × ℕ)) → i < states content → IsSteps content i steps ↔ (steps ≡ steps_of content i)

-- each step leads where one follows, and where one follows there is a step, but at ANY
abbrev pub StepsFollow : Type 0
StepsFollow = (content : Content) (i j : ℕ) (name : Chars) → TellsSteps content → Contains (steps_of content i) (name, j) ↔ FollowsOn content i name j

-- the step on a name is one that follows, and None where none does
abbrev pub StepOnFollows : Type 0
StepOnFollows = (content : Content) (i : ℕ) (name : Chars) → IsStep content i name (step_on content i name)

-- it is the one that follows where the content is deterministic
abbrev pub OneStepOn : Type 0
OneStepOn = (content : Content) (i j : ℕ) (name : Chars) → IsDeterministic content → (step_on content i name ≡ Some j) ↔ FollowsOn content i name j

-- and the one on this name among the steps, but at ANY
abbrev pub StepsAgree : Type 0
StepsAgree =
    (content : Content) (i j : ℕ) (name : Chars) → TellsSteps content → IsDeterministic content
    → (step_on content i name ≡ Some j) ↔ Contains (steps_of content i) (name, j)

-- what accepts, and where a step begins and ends, is a state
pub record AreWithin (content : Content) : Type 0 where
  pub accepting : (i : ℕ) → Accepts content i → i < states content
  pub before : (i j : ℕ) (name : Chars) → FollowsOn content i name j → i < states content
  pub after : (i j : ℕ) (name : Chars) → FollowsOn content i name j → j < states content

-- a state of a proper content has at most 1,024 steps
abbrev pub FewSteps : Type 0
FewSteps = (content : Content) (i : ℕ) → IsProper content → length (steps_of content i) ≤ 1024
