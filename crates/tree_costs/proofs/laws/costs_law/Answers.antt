use Rattle.tree_costs.proofs.Costs.{order_by_test}
use Rattle.tree_costs.proofs.laws.costs_law.Goals as goal

pub returns : goal.returns
returns c = order_by_test
