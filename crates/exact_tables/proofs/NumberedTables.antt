-- The solved graph of numbers that stands for the graph of a comparison gives the exact tables.
use Rattle.tree_costs.specs.Numbered.{graph_of}
use Rattle.tree_costs.proofs.Numbered.{solved}
use Rattle.exact_tables.specs.Comparing.{comparison}
use Rattle.exact_tables.specs.Numbered.{NumberedIsExact}
use Rattle.exact_tables.proofs.Comparing.{solved_is_exact}

pub numbered_is_exact : NumberedIsExact
numbered_is_exact first second n label state m p d q c kf ks R X K T =
    solved_is_exact first second n.cap d q c kf ks (solved (graph_of n) (comparison first second n.cap) label state R m p d q K X) T
