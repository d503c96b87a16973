use Rattle.article_tree.proofs.WrittenBack.{read_back}
use Rattle.article_tree.proofs.laws.writing_law.Goals as goal

pub returns : goal.returns
returns c = read_back
