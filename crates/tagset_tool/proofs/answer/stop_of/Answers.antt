use Rattle.std.proofs.Common.{List, ℕ, subst, IsTrue}
use Rattle.tagset_tool.specs.Runs.{is_absence}
use Rattle.tagset_tool.proofs.Heads.{absence_number}
use Rattle.tagset_tool.proofs.answer.stop_of.Goals as goal

pub returns-in-Ok-clause-absence : goal.returns-in-Ok-clause-absence
returns-in-Ok-clause-absence c =
    rw c.in-Refused.is (λ absence. absence_number c.in-Refused.refusal c.refused.ensures.small (subst (λ (b : List ℕ). IsTrue (is_absence b)) c.in-Ok.ensures.value.1 absence))
