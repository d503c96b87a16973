-- Nothing is wrong in an article exactly where it is valid and its links are right.
use Rattle.std.proofs.Common.{◌≡◌, ℕ, suc, true, false, cond, List, [], ◌∷◌, ◌++◌, map, Some, refl, sym, ap, IsTrue, bytes_eq}
use Rattle.std.specs.List.{AllByRecursion}
use Rattle.std.specs.Map.{lookup}
use Rattle.std.proofs.lemmas.Slice.Eq.{bytes_eq-Decides}
use Rattle.document_trees.specs.Trees.{Node, nodes_in}
use Rattle.document_trees.specs.Laws.{OfNode}
use Rattle.document_trees.proofs.Listed.{each_listed, listed_each}
use Rattle.decl_set.specs.Asked.{IsKept, IsElement}
use Rattle.decl_set.specs.Declarations.{Declarations, Element, content_in, attributes_in}
use Rattle.decl_set.specs.Validity.{Meets, IsValid}
use Rattle.article_validator.specs.Faults.{invalid, node_causes, faults_from, root_faults, fault_list}
use Rattle.article_validator.specs.Laws.{ValidWithoutFaults}
use Rattle.article_validator.specs.Links.{AreLinked, all_ids, ids_in, links_in, links_causes}
use Rattle.article_validator.specs.Structure.{causes_in}
use Rattle.article_validator.proofs.Differing.{fresh_differ, differ_fresh, Absent}
use Rattle.article_validator.proofs.Linking.{NoneFrom, linked_of, of_linked}
use Rattle.article_validator.proofs.Structure.{both_empty, empty_both, empty_unless, unless_empty, IsDeterministicIfAny, meets_of_none, none_of_meets}

-- what a set declares is deterministic
pub kept_one : (es : List Element) (name : List ℕ) → AllByRecursion IsElement es → IsDeterministicIfAny (lookup (bytes_eq name) es)
kept_one [] name all = tt
kept_one (e ∷ es) name all = elim (bytes_eq name e.0) as (λ b. IsDeterministicIfAny (cond b (Some e.1) (lookup (bytes_eq name) es))) [ true ↦ all.0.deterministic | false ↦ kept_one es name all.1 ]

pub met : (set : Declarations) → IsKept set → (node : Node) → causes_in set node ≡ [] → OfNode (Meets set) node
met set kept node none = meets_of_none (content_in set node.name) (attributes_in set node.name) node (kept_one set.elements node.name kept.elements_are) none

pub unmet : (set : Declarations) → IsKept set → (node : Node) → OfNode (Meets set) node → causes_in set node ≡ []
unmet set kept node meets = none_of_meets (content_in set node.name) (attributes_in set node.name) node (kept_one set.elements node.name kept.elements_are) meets

mapped_empty : {X Y : Type 0} (f : X → Y) (xs : List X) → map f xs ≡ [] → xs ≡ []
mapped_empty f [] e = refl
mapped_empty f (x ∷ xs) e = cc

module _ (set : Declarations) (kept : IsKept set) (all : List (List ℕ)) where
  clean : (number : ℕ) (seen : List (List ℕ)) (nodes : List Node) → faults_from set all number seen nodes ≡ [] → AllByRecursion (OfNode (Meets set)) nodes × NoneFrom set all seen nodes
  clean number seen [] e = (tt, tt)
  clean number seen (node ∷ nodes) e =
      let h = both_empty (map (invalid number node.name) (node_causes set all seen node)) (faults_from set all (suc number) (seen ++ ids_in set node) nodes) e in
      let k = both_empty (causes_in set node) (links_causes set all seen (links_in set node)) (mapped_empty (invalid number node.name) (node_causes set all seen node) h.0) in
      let later = clean (suc number) (seen ++ ids_in set node) nodes h.1 in
      ((met set kept node k.0, later.0), (k.1, later.1))

  cleaned : (number : ℕ) (seen : List (List ℕ)) (nodes : List Node) → AllByRecursion (OfNode (Meets set)) nodes → NoneFrom set all seen nodes → faults_from set all number seen nodes ≡ []
  cleaned number seen [] meets none = refl
  cleaned number seen (node ∷ nodes) meets none =
      empty_both (map (invalid number node.name) (node_causes set all seen node)) (faults_from set all (suc number) (seen ++ ids_in set node) nodes)
      (ap (map (invalid number node.name)) (empty_both (causes_in set node) (links_causes set all seen (links_in set node)) (unmet set kept node meets.0) none.0))
      (cleaned (suc number) (seen ++ ids_in set node) nodes meets.1 none.1)

nothing_seen : (ids : List (List ℕ)) → AllByRecursion (Absent []) ids
nothing_seen [] = tt
nothing_seen (id ∷ ids) = ((λ t. let off : IsTrue false = t in cc), nothing_seen ids)

pub valid_without_faults : ValidWithoutFaults
unfolding fault_list
valid_without_faults set root node kept = (to, from)
  where
    to : fault_list set root node ≡ [] → IsValid set root node × AreLinked set node
    to e =
        let h = both_empty (root_faults root node) (faults_from set (all_ids set node) 1 [] (nodes_in node)) e in
        let named = empty_unless (bytes_eq root node.name) _ h.0 in
        let k = clean set kept (all_ids set node) 1 [] (nodes_in node) h.1 in
        let links = linked_of set (all_ids set node) [] (nodes_in node) k.1 in (
          (sym ((bytes_eq-Decides root node.name).0 named), listed_each (Meets set) node k.0),
          record { ids = (fresh_differ [] (all_ids set node) links.0).0; nodes = links.1 },
        )

    from : IsValid set root node × AreLinked set node → fault_list set root node ≡ []
    from v =
        empty_both (root_faults root node) (faults_from set (all_ids set node) 1 [] (nodes_in node))
        (unless_empty (bytes_eq root node.name) _ ((bytes_eq-Decides root node.name).1 (sym v.0.0)))
        (cleaned set kept (all_ids set node) 1 [] (nodes_in node) (each_listed (Meets set) node v.0.1)
        (of_linked set (all_ids set node) [] (nodes_in node) (differ_fresh [] (all_ids set node) v.1.ids (nothing_seen (all_ids set node))) v.1.nodes))
