use Rattle.document_trees.proofs.Alone as alone
use Rattle.document_trees.proofs.laws.alone_law.Goals as goal

pub returns : goal.returns
returns c = record { alone = alone.alone_law; bare = alone.bared }
