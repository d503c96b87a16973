-- Lists of names that lead from a state to acceptance (XML 1.0, 3.2.1).
use Rattle.std.specs.Prelude.{ℕ, List, [], ◌∷◌, ◌↔◌}
use Rattle.content_models.specs.declared.content.Content.{Content}
use Rattle.content_models.specs.Model.{Chars, Derives}
use Rattle.position_automata.specs.Automata.{FollowsOn, Accepts}

-- the names lead from state i to acceptance
abbrev pub Runs : Content → ℕ → List Chars → Type 0
Runs content i [] = Accepts content i
Runs content i (name ∷ names) = (k : ℕ) × FollowsOn content i name k × Runs content k names

-- a content derives the lists of names that lead from its start to acceptance
abbrev pub DerivesByRuns : Type 0
DerivesByRuns = (content : Content) (names : List Chars) → Derives content names ↔ Runs content 0 names
