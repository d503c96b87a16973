use Rattle.model_inclusion.proofs.Closing.{listed_by_closure}
use Rattle.model_inclusion.proofs.Unique.{one_list}
use Rattle.model_inclusion.proofs.laws.pairs_law.Goals as goal

pub returns-clause-closure : goal.returns-clause-closure
returns-clause-closure c = listed_by_closure

pub returns-clause-one : goal.returns-clause-one
returns-clause-one c = one_list
