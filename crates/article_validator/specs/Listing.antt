-- How causes are listed where each ID is kept once.
use Rattle.std.specs.Prelude.{ℕ, suc, List, [], ◌∷◌, ◌++◌, Option, Some, None, bytes_eq, map}
use Rattle.document_trees.specs.Trees.{Node}
use Rattle.indexmap.specs.IndexSet.{insert_all}
use Rattle.decl_set.specs.Declarations.{Declarations}
use Rattle.article_validator.specs.declared.fault.InvalidCause.{InvalidCause}
use Rattle.article_validator.specs.Faults.{invalid}
use Rattle.article_validator.specs.Links.{Link, ids_in, ids_of, link_causes, links_in}
use Rattle.article_validator.specs.Structure.{causes_in}
use Rattle.article_validator.specs.declared.fault.Invalid.{Invalid}

-- what there is, as a list
abbrev pub one_or_none : {X : Type 0} → Option X → List X
one_or_none None = []
one_or_none (Some x) = x ∷ []

-- what is wrong with links in order, each behind those before it, of which each ID is kept once
abbrev pub kept_causes : Declarations → List (List ℕ) → List (List ℕ) → List Link → List InvalidCause
kept_causes set all seen [] = []
kept_causes set all seen (l ∷ ls) = link_causes set all seen l ++ kept_causes set all (insert_all bytes_eq seen (ids_of l)) ls

-- the nodes in order, numbered from here on, behind those with these IDs, of which each is kept once
abbrev pub kept_from : Declarations → List (List ℕ) → ℕ → List (List ℕ) → List Node → List Invalid
kept_from set all number seen [] = []
kept_from set all number seen (node ∷ nodes) =
    map (invalid number node.name) (causes_in set node ++ kept_causes set all seen (links_in set node)) ++ kept_from set all (suc number) (insert_all bytes_eq seen (ids_in set node)) nodes
