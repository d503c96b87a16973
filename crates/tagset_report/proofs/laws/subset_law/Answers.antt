use Rattle.tagset_report.proofs.Firsts.{separated_by_breaks}
use Rattle.tagset_report.proofs.Reaching.{useful_by_chains}
use Rattle.tagset_report.proofs.Subsets.{subset_by_breaks}
use Rattle.tagset_report.proofs.laws.subset_law.Goals as goal

pub returns-clause-subset : goal.returns-clause-subset
returns-clause-subset c = subset_by_breaks

pub returns-clause-useful : goal.returns-clause-useful
returns-clause-useful c = useful_by_chains

pub returns-clause-separated : goal.returns-clause-separated
returns-clause-separated c = separated_by_breaks
