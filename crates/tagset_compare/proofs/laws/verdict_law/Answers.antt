use Rattle.tagset_compare.proofs.Telling.{verdict_is_true, bound_is_told}
use Rattle.tagset_compare.proofs.laws.verdict_law.Goals as goal

pub returns-clause-says : goal.returns-clause-says
returns-clause-says c = verdict_is_true

pub returns-clause-bound : goal.returns-clause-bound
returns-clause-bound c = bound_is_told
