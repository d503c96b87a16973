use Rattle.article_tree.proofs.Agreements.{articles}
use Rattle.article_tree.proofs.laws.article_law.Goals as goal

pub returns : goal.returns
returns c = articles
