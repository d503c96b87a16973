use Rattle.article_tree.proofs.Placing.{article_placed}
use Rattle.article_tree.proofs.laws.placing_law.Goals as goal

pub returns : goal.returns
returns c = article_placed
