-- The list of what is wrong in an article.
use Rattle.std.specs.Prelude.{ℕ, suc, List, [], ◌∷◌, ◌++◌, map, bytes_eq, if◌then◌else◌}
use Rattle.document_trees.specs.Trees.{Node, nodes_in}
use Rattle.decl_set.specs.Declarations.{Declarations}
use Rattle.article_validator.specs.Links.{all_ids, ids_in, links_in, links_causes}
use Rattle.article_validator.specs.Structure.{causes_in}
use Rattle.article_validator.specs.declared.fault.Invalid.{Invalid}
use Rattle.article_validator.specs.declared.fault.InvalidCause.{InvalidCause}
use Rattle.article_validator.specs.declared.fault.InvalidCause.TheVariants as cause

-- a cause at the node of this number and name
abbrev pub invalid : ℕ → List ℕ → InvalidCause → Invalid
invalid number name cause = record { node = number; element = name; cause = cause }

-- the causes of one node: those of its declaration, and then those of its links
abbrev pub node_causes : Declarations → List (List ℕ) → List (List ℕ) → Node → List InvalidCause
node_causes set all seen node = causes_in set node ++ links_causes set all seen (links_in set node)

-- the nodes in order, numbered from here on, behind these IDs
abbrev pub faults_from : Declarations → List (List ℕ) → ℕ → List (List ℕ) → List Node → List Invalid
faults_from set all number seen [] = []
faults_from set all number seen (node ∷ nodes) =
    map (invalid number node.name) (node_causes set all seen node) ++ faults_from set all (suc number) (seen ++ ids_in set node) nodes

-- the top element is not the root that is asked for
abbrev pub root_faults : List ℕ → Node → List Invalid
root_faults root node = if bytes_eq root node.name then [] else invalid 1 node.name cause.Root ∷ []

-- all that is wrong in the article, in document order
unfoldable pub fault_list : Declarations → List ℕ → Node → List Invalid
fault_list set root node = root_faults root node ++ faults_from set (all_ids set node) 1 [] (nodes_in node)
