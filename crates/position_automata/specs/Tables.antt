-- What an automaton keeps of a content.
use Rattle.std.specs.Prelude.{◌≡◌, ◌<◌, ℕ, ◌+◌, ◌^◌, Bool, false, List, [], length, bytes_eq, slice_index_or, Result, Ok, Err}
use Rattle.std.specs.Bool.{Decides}
use Rattle.std.specs.List.{list_any}
use Rattle.content_models.specs.declared.content.Content.{Content}
use Rattle.content_models.specs.declared.content.Content.TheVariants.{Mixed, Children}
use Rattle.content_models.specs.declared.content.Particle.{Particle}
use Rattle.position_automata.specs.declared.fault.BuildFault.{BuildFault}
use Rattle.position_automata.specs.declared.fault.BuildFault.TheVariants.{Ambiguous, NoMemory}
use Rattle.content_models.specs.Proper.{IsProper}
use Rattle.content_models.specs.Model.{Chars, model}
use Rattle.position_automata.specs.Automata.{states, IsDeterministic, Accepts, IsAmbiguous}
use Rattle.position_automata.specs.Marked.{count, Deterministic}
use Rattle.position_automata.specs.Places.{letters, pairs}
use Rattle.position_automata.specs.Rows.{targets, numbers_of, IsRow}

-- the names that steps are on
abbrev pub step_names : Content → List Chars
step_names (Mixed listed) = listed
step_names (Children part) = letters (model part)
step_names _ = []

-- the positions that may come next from a state
abbrev pub found_at : Content → ℕ → List ℕ
found_at (Children part) i = targets i (pairs (model part))
found_at _ i = []

-- each distinct name of the list is among the keys, and no other
abbrev pub AreKeys : List Chars → List Chars → Type 0
AreKeys names keys = (name : Chars) → list_any (bytes_eq name) keys ≡ list_any (bytes_eq name) names

pub record IsTable (content : Content) (names keys : List Chars) (rows : List (List (ℕ × ℕ))) (accepting : List Bool) : Type 0 where
  pub proper : IsProper content
  pub deterministic : IsDeterministic content
  pub small : states content < 2 ^ 32
  pub names_are : names ≡ step_names content
  pub keys_are : AreKeys names keys
  pub states_are : length rows ≡ states content
  pub rows_are : (i : ℕ) → i < states content → IsRow (numbers_of keys names) (found_at content i) (slice_index_or rows i [])
  pub accepting_is : (i : ℕ) → i < states content → Decides (slice_index_or accepting i false) (Accepts content i)

-- the rows of a model, or why there are none
abbrev pub ModelRows : Particle → List Chars → Result (List (List (ℕ × ℕ))) BuildFault → Type 0
ModelRows part keys (Ok rows) =
    Deterministic (model part) × (length rows ≡ 1 + count (model part))
    × ((i : ℕ) → i < 1 + count (model part) → IsRow (numbers_of keys (letters (model part))) (targets i (pairs (model part))) (slice_index_or rows i []))
ModelRows part keys (Err (Ambiguous p q)) = IsAmbiguous (Children part) p q
ModelRows part keys (Err NoMemory) = Unit {0}

-- the content is no model
abbrev pub IsSimple : Content → Type 0
IsSimple (Children part) = ⊥
IsSimple _ = Unit {0}

-- what comes of building
abbrev pub Builds : Content → Result Content BuildFault → Type 0
Builds content (Ok automaton) = (automaton ≡ content) × IsDeterministic content
Builds content (Err (Ambiguous p q)) = IsAmbiguous content p q
Builds content (Err NoMemory) = Unit {0}
