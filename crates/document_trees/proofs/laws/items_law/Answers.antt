use Rattle.document_trees.proofs.Seen.{items_same, of_for}
use Rattle.document_trees.proofs.laws.items_law.Goals as goal

pub returns : goal.returns
returns c = record { one = items_same; each = of_for }
