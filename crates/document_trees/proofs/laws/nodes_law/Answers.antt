use Rattle.document_trees.proofs.Listed.{each_in_list, document_in_list, size_in_list}
use Rattle.document_trees.proofs.laws.nodes_law.Goals as goal

pub returns : goal.returns
returns c = record { each = each_in_list; document = document_in_list; size = size_in_list }
