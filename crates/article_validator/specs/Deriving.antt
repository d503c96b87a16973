-- Whether a content derives names, told by going through its states (XML 1.0, 3.2.1 and Appendix E).
use Rattle.std.specs.Prelude.{ℕ, Bool, false, List, [], ◌∷◌, Option, Some, None}
use Rattle.content_models.specs.declared.content.Content.{Content}
use Rattle.content_models.specs.Model.{Chars}
use Rattle.position_automata.specs.Stepping.{does_accept, step_on}

-- whether the names lead from the state, where there is one, to acceptance
abbrev pub leads_on : Content → Option ℕ → List Chars → Bool
leads_on content None names = false
leads_on content (Some i) [] = does_accept content i
leads_on content (Some i) (name ∷ names) = leads_on content (step_on content i name) names

-- whether the content derives the names
abbrev pub is_derived : Content → List Chars → Bool
is_derived content names = leads_on content (Some 0) names
