-- The states of a content and what they do (XML 1.0, 3.2.1 and Appendix E).
use Rattle.std.specs.Prelude.{◌≡◌, ◌≤◌, ◌<◌, ℕ, ◌+◌, List, [], ◌∷◌, IsTrue, Option, MatchOption, map, Contains, slice_get, slice_index_or, length, ◌↔◌}
use Rattle.std.specs.List.{list_all, sum_by}
use Rattle.std.specs.List.Sorted.{IsStrictlyIncreasing}
use Rattle.content_models.specs.declared.content.Content.{Content}
use Rattle.content_models.specs.declared.content.Content.TheVariants.{Empty, Any, Mixed, Children}
use Rattle.content_models.specs.Model.{Chars, model, among}
use Rattle.position_automata.specs.Marked.{count, Deterministic, LeadsTo, Follows, AcceptsAt}

-- how many states a content has: the start and one for each occurrence of a name in a model, the start alone otherwise
abbrev pub states : Content → ℕ
states (Children part) = 1 + count (model part)
states _ = 1

-- the content is deterministic (XML 1.0, Appendix E)
abbrev pub IsDeterministic : Content → Type 0
IsDeterministic (Children part) = Deterministic (model part)
IsDeterministic _ = Unit {0}

-- this list of names leads from the start to state i
abbrev pub Leads : Content → List Chars → ℕ → Type 0
Leads Empty names i = (names ≡ []) × (i ≡ 0)
Leads Any names i = i ≡ 0
Leads (Mixed listed) names i = IsTrue (list_all (among listed) names) × (i ≡ 0)
Leads (Children part) names i = LeadsTo (model part) names i

-- state j follows on this name from state i
abbrev pub FollowsOn : Content → ℕ → Chars → ℕ → Type 0
FollowsOn Empty i name j = ⊥
FollowsOn Any i name j = (i ≡ 0) × (j ≡ 0)
FollowsOn (Mixed listed) i name j = (i ≡ 0) × IsTrue (among listed name) × (j ≡ 0)
FollowsOn (Children part) i name j = Follows (model part) i name j

-- a list of names may end in state i
abbrev pub Accepts : Content → ℕ → Type 0
Accepts (Children part) i = AcceptsAt (model part) i
Accepts _ i = i ≡ 0

-- a way through the states of a content along these names
abbrev pub Way : Content → ℕ → List Chars → ℕ → Type 0
Way content i [] j = i ≡ j
Way content i (name ∷ names) j = (k : ℕ) × FollowsOn content i name k × Way content k names j

-- the two positions for which a content is not deterministic: from the least state from which two positions of one name
-- may come next, the least position there that shares its name, and the least other one of that name
pub record IsAmbiguous (content : Content) (p q : ℕ) : Type 0 where
  pub state : ℕ
  pub name : Chars
  pub first : FollowsOn content state name p
  pub second : FollowsOn content state name q
  pub apart : p ≡ q → ⊥
  pub least_state : (i x y : ℕ) (other : Chars) → i < state → FollowsOn content i other x → FollowsOn content i other y → x ≡ y
  pub least_first : (x y : ℕ) (other : Chars) → FollowsOn content state other x → FollowsOn content state other y → (x ≡ y → ⊥) → p ≤ x
  pub least_second : (y : ℕ) → FollowsOn content state name y → (p ≡ y → ⊥) → q ≤ y

-- the state that follows on this name, or None where none does
abbrev pub IsStep : Content → ℕ → Chars → Option ℕ → Type 0
IsStep content i name step = MatchOption step ((j : ℕ) → FollowsOn content i name j → ⊥) (λ j. FollowsOn content i name j)

-- the steps of a state in their order: of a model by position, of mixed content as its names are listed; none are told at ANY
abbrev pub IsSteps : Content → ℕ → List (Chars × ℕ) → Type 0
IsSteps (Mixed listed) i steps = steps ≡ map (λ name. (name, 0)) listed
IsSteps (Children part) i steps =
    IsStrictlyIncreasing (map (λ s. s.1) steps) × ((name : Chars) (j : ℕ) → Contains steps (name, j) ↔ Follows (model part) i name j)
IsSteps _ i steps = steps ≡ []

-- the k-th step of a state
abbrev pub TellsStep : Content → ℕ → ℕ → Option (Chars × ℕ) → Type 0
TellsStep content i k step = (steps : List (Chars × ℕ)) × IsSteps content i steps × (step ≡ slice_get steps k)

-- the number of pairs of a state and one of its steps: all states' steps together
abbrev pub IsFollows : Content → ℕ → Type 0
IsFollows content n =
    (rows : List (List (Chars × ℕ))) × (length rows ≡ states content)
    × ((i : ℕ) → i < states content → IsSteps content i (slice_index_or rows i [])) × (n ≡ sum_by length rows)
