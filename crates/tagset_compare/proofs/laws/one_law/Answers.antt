use Rattle.tagset_compare.proofs.Single.{one_verdict}
use Rattle.tagset_compare.proofs.laws.one_law.Goals as goal

pub returns : goal.returns
returns c = one_verdict
