use Rattle.tree_costs.proofs.Placed.{numbered_is_exact}
use Rattle.tree_costs.proofs.laws.numbered_law.Goals as goal

pub returns : goal.returns
returns c = numbered_is_exact
