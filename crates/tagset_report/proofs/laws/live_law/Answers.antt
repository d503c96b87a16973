use Rattle.tagset_report.proofs.Numbers.{documents_by_costs, ends_by_costs}
use Rattle.tagset_report.proofs.laws.live_law.Goals as goal

pub returns-clause-documents : goal.returns-clause-documents
returns-clause-documents c = documents_by_costs

pub returns-clause-ends : goal.returns-clause-ends
returns-clause-ends c = ends_by_costs
