use Rattle.tree_costs.proofs.Unique.{one_least, documents_told}
use Rattle.tree_costs.proofs.laws.least_law.Goals as goal

pub returns-clause-one : goal.returns-clause-one
returns-clause-one c = one_least

pub returns-clause-documents : goal.returns-clause-documents
returns-clause-documents c = documents_told
