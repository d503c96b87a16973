use Rattle.tree_costs.proofs.Own.{solved_is_exact}
use Rattle.tree_costs.proofs.laws.graph_law.Goals as goal

pub returns : goal.returns
returns c = solved_is_exact
