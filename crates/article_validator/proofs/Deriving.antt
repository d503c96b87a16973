-- Going through the states of a content tells what it derives.
use Rattle.std.proofs.Common.{◌≡◌, ℕ, List, [], ◌∷◌, Some, None, refl, sym, subst, IsTrue}
use Rattle.std.specs.Prelude.{Option}
use Rattle.content_models.specs.declared.content.Content.{Content}
use Rattle.content_models.specs.Model.{Chars}
use Rattle.position_automata.specs.Automata.{IsDeterministic}
use Rattle.position_automata.specs.Runs.{Runs}
use Rattle.position_automata.specs.Stepping.{step_on}
use Rattle.position_automata.proofs.States.{derives_by_runs}
use Rattle.position_automata.proofs.Stepping.{accepts_by_test, on_to, on_from}
use Rattle.article_validator.specs.Deriving.{leads_on}
use Rattle.article_validator.specs.Laws.{DerivedByStates}

runs_of : (content : Content) (i : ℕ) (names : List Chars) → IsTrue (leads_on content (Some i) names) → Runs content i names
runs_of content i [] leads = (accepts_by_test content i).0 leads
runs_of content i (name ∷ names) leads = by (step_on content i name) refl leads (λ k on. runs_of content k names on)
  where
    by : (o : Option ℕ) → step_on content i name ≡ o → IsTrue (leads_on content o names) → ((k : ℕ) → IsTrue (leads_on content (Some k) names) → Runs content k names) → Runs content i (name ∷ names)
    by None is on later = cc
    by (Some k) is on later = (k, on_to content i k name is, later k on)

leads_of : (content : Content) (i : ℕ) (names : List Chars) → IsDeterministic content → Runs content i names → IsTrue (leads_on content (Some i) names)
leads_of content i [] one runs = (accepts_by_test content i).1 runs
leads_of content i (name ∷ names) one runs =
    subst (λ o. IsTrue (leads_on content o names)) (sym (on_from content i runs.0 name one runs.1)) (leads_of content runs.0 names one runs.2)

pub derived_by_states : DerivedByStates
derived_by_states content names one =
    ((λ leads. (derives_by_runs content names).1 (runs_of content 0 names leads)), (λ derives. leads_of content 0 names one ((derives_by_runs content names).0 derives)))
