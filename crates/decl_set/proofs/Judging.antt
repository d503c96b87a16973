-- The judgement of a content by its automaton.
use Rattle.std.proofs.Common.{◌≡◌, ℕ, Ok, Err, subst}
use Rattle.content_models.specs.declared.content.Content.{Content}
use Rattle.position_automata.specs.Automata.{IsDeterministic, IsFollows}
use Rattle.position_automata.specs.Judged.{judged}
use Rattle.position_automata.specs.Tables.{Builds}
use Rattle.position_automata.specs.declared.fault.BuildFault.{BuildFault}
use Rattle.position_automata.specs.declared.fault.BuildFault.TheVariants.{Ambiguous, NoMemory}
use Rattle.position_automata.proofs.Judging.{judged_built, judged_refused}
use Rattle.decl_set.specs.Judgements.{IsJudgement}

pub judged_refusal : (content : Content) (fault : BuildFault) → Builds content (Err fault) → IsJudgement content (Err fault)
judged_refusal content (Ambiguous p q) h = judged_refused content p q h
judged_refusal content NoMemory h = tt

pub judged_automaton : (content automaton : Content) (n : ℕ) → Builds content (Ok automaton) → IsFollows automaton n → (automaton ≡ content) × IsDeterministic content × (judged content ≡ Ok n)
judged_automaton content automaton n built follows =
    let is : IsFollows content n = subst (λ c. IsFollows c n) built.0 follows in
    (built.0, built.1, judged_built content automaton n built is)
