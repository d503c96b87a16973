use Rattle.exact_tables.proofs.Choosing.{one_least_tree}
use Rattle.exact_tables.proofs.Chosen.{least_tree_is_built}
use Rattle.exact_tables.proofs.Growing.{least_tree_exists}
use Rattle.exact_tables.proofs.laws.tree_law.Goals as goal

pub returns : goal.returns
returns c = record { one = one_least_tree; built = least_tree_is_built; exists = least_tree_exists }
