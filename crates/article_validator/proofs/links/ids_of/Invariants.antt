use Rattle.std.proofs.Common.{◌≡◌, bytes_eq, [], length}
use Rattle.std.specs.List.{flat_map}
use Rattle.indexmap.specs.IndexSet.{insert_all}
use Rattle.document_trees.specs.Trees.{nodes_in}
use Rattle.article_validator.specs.Links.{ids_in}
use Rattle.article_validator.proofs.links.ids_of.Given as goal

abbrev pub invariant-loop-nodes : goal.invariant-loop-nodes
invariant-loop-nodes l = insert_all bytes_eq l.ids.keys (flat_map (ids_in l.set) l.nodes) ≡ insert_all bytes_eq [] (flat_map (ids_in l.set) (nodes_in l.fn.node))

abbrev pub decreases-loop-nodes : goal.decreases-loop-nodes
decreases-loop-nodes l = length l.nodes
