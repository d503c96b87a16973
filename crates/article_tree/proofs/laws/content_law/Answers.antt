use Rattle.article_tree.proofs.Agreements.{contents}
use Rattle.article_tree.proofs.laws.content_law.Goals as goal

pub returns : goal.returns
returns c = contents
