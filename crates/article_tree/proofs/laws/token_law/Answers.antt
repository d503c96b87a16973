use Rattle.article_tree.proofs.Agreements.{tokens}
use Rattle.article_tree.proofs.laws.token_law.Goals as goal

pub returns : goal.returns
returns c = tokens
