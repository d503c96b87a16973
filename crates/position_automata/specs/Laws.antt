-- What the states of a content say about what it derives.
use Rattle.std.specs.Prelude.{◌≡◌, List, ℕ, ◌↔◌}
use Rattle.content_models.specs.declared.content.Content.{Content}
use Rattle.content_models.specs.Model.{Chars, Derives}
use Rattle.position_automata.specs.Automata.{IsDeterministic, Leads, FollowsOn, Accepts, Way}

-- a content derives the lists of names that lead to a state that accepts
abbrev pub DerivesByStates : Type 0
DerivesByStates = (content : Content) (names : List Chars) → Derives content names ↔ ((i : ℕ) × Leads content names i × Accepts content i)

-- a list of names leads to a state exactly where a way along it ends there
abbrev pub LeadsByWays : Type 0
LeadsByWays = (content : Content) (names : List Chars) (i : ℕ) → Leads content names i ↔ Way content 0 names i

-- a content is deterministic exactly where one state follows on one name
abbrev pub OneStateFollows : Type 0
OneStateFollows =
    (content : Content)
    → IsDeterministic content ↔ ((i j k : ℕ) (name : Chars) → FollowsOn content i name j → FollowsOn content i name k → j ≡ k)
