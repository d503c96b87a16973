use Rattle.article_tree.proofs.Agreements.{one}
use Rattle.article_tree.proofs.laws.one_law.Goals as goal

pub returns : goal.returns
returns c = one
