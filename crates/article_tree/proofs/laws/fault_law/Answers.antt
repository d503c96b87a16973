use Rattle.article_tree.proofs.Places.{fault_within}
use Rattle.article_tree.proofs.laws.fault_law.Goals as goal

pub returns : goal.returns
returns c = fault_within
