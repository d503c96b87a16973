use Rattle.article_tree.proofs.Agreements.{documents}
use Rattle.article_tree.proofs.laws.document_law.Goals as goal

pub returns : goal.returns
returns c = documents
