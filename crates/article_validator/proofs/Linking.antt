-- Nothing is wrong with links exactly where they are right.
use Rattle.std.proofs.Common.{◌≡◌, ℕ, Bool, true, false, not, cond, List, [], ◌∷◌, ◌++◌, refl, subst, IsTrue}
use Rattle.std.specs.List.{flat_map, list_all, AllByRecursion}
use Rattle.document_trees.specs.Trees.{Node}
use Rattle.attribute_types.specs.Classes.{among}
use Rattle.attribute_types.specs.declared.types.AttType.{AttType}
use Rattle.attribute_types.specs.declared.types.AttType.TheVariants as kind
use Rattle.decl_set.specs.Declarations.{Declarations}
use Rattle.article_validator.specs.Links.{Link, IsLinked, links_in, ids_in, ids_of, ids_by, targets_of, entities_of, is_unparsed, repeated, untargeted, unnamed, link_causes, links_causes}
use Rattle.article_validator.specs.declared.fault.InvalidCause.{InvalidCause}
use Rattle.article_validator.proofs.Differing.{fresh, fresh_append, and_of, of_and}
use Rattle.article_validator.proofs.Structure.{both_empty, empty_both, empty_unless, unless_empty, all_of_none, none_of_all}

repeated_none : (b : Bool) (x : InvalidCause) → cond b (x ∷ []) [] ≡ [] → IsTrue (not b)
repeated_none true x e = cc
repeated_none false x e = refl

none_repeated : (b : Bool) (x : InvalidCause) → IsTrue (not b) → cond b (x ∷ []) [] ≡ []
none_repeated true x t = cc
none_repeated false x t = refl

-- the one ID that a link may be
one_fresh : (seen : List (List ℕ)) (l : Link) (k : AttType) (value : List ℕ) → flat_map (repeated seen l.name) (ids_by k value) ≡ [] → IsTrue (fresh seen (ids_by k value))
one_fresh seen l kind.Cdata value e = refl
one_fresh seen l kind.Id value e = and_of (not (among seen value)) true (repeated_none (among seen value) _ (both_empty (repeated seen l.name value) [] e).0) refl
one_fresh seen l kind.Idref value e = refl
one_fresh seen l kind.Idrefs value e = refl
one_fresh seen l kind.Entity value e = refl
one_fresh seen l kind.Entities value e = refl
one_fresh seen l kind.Nmtoken value e = refl
one_fresh seen l kind.Nmtokens value e = refl
one_fresh seen l (kind.Notation names) value e = refl
one_fresh seen l (kind.Enumeration tokens) value e = refl

fresh_one : (seen : List (List ℕ)) (l : Link) (k : AttType) (value : List ℕ) → IsTrue (fresh seen (ids_by k value)) → flat_map (repeated seen l.name) (ids_by k value) ≡ []
fresh_one seen l kind.Cdata value t = refl
fresh_one seen l kind.Id value t = empty_both (repeated seen l.name value) [] (none_repeated (among seen value) _ (of_and (not (among seen value)) true t).0) refl
fresh_one seen l kind.Idref value t = refl
fresh_one seen l kind.Idrefs value t = refl
fresh_one seen l kind.Entity value t = refl
fresh_one seen l kind.Entities value t = refl
fresh_one seen l kind.Nmtoken value t = refl
fresh_one seen l kind.Nmtokens value t = refl
fresh_one seen l (kind.Notation names) value t = refl
fresh_one seen l (kind.Enumeration tokens) value t = refl

all_join : {X : Type 0} (p : X → Bool) (xs ys : List X) → IsTrue (list_all p xs) → IsTrue (list_all p ys) → IsTrue (list_all p (xs ++ ys))
all_join p [] ys s t = t
all_join p (x ∷ xs) ys s t = let h = of_and (p x) (list_all p xs) s in and_of (p x) (list_all p (xs ++ ys)) h.0 (all_join p xs ys h.1 t)

all_part : {X : Type 0} (p : X → Bool) (xs ys : List X) → IsTrue (list_all p (xs ++ ys)) → IsTrue (list_all p xs) × IsTrue (list_all p ys)
all_part p [] ys t = (refl, t)
all_part p (x ∷ xs) ys t = let h = of_and (p x) (list_all p (xs ++ ys)) t in let k = all_part p xs ys h.1 in (and_of (p x) (list_all p xs) h.0 k.0, k.1)

-- links that are right behind these IDs
pub record AreRight (set : Declarations) (all seen : List (List ℕ)) (links : List Link) : Type 0 where
  pub ids : IsTrue (fresh seen (flat_map ids_of links))
  pub targets : IsTrue (list_all (among all) (flat_map targets_of links))
  pub entities : IsTrue (list_all (is_unparsed set) (flat_map entities_of links))

pub right_of_none : (set : Declarations) (all seen : List (List ℕ)) (links : List Link) → links_causes set all seen links ≡ [] → AreRight set all seen links
right_of_none set all seen [] e = record { ids = refl; targets = refl; entities = refl }
right_of_none set all seen (l ∷ ls) e =
    let h = both_empty (link_causes set all seen l) (links_causes set all (seen ++ ids_of l) ls) e in
    let k = both_empty (flat_map (repeated seen l.name) (ids_of l)) (flat_map (untargeted all l.name) (targets_of l) ++ flat_map (unnamed set l.name) (entities_of l)) h.0 in
    let m = both_empty (flat_map (untargeted all l.name) (targets_of l)) (flat_map (unnamed set l.name) (entities_of l)) k.1 in
    let later = right_of_none set all (seen ++ ids_of l) ls h.1 in
    record {
      ids = rw (fresh_append seen (ids_of l) (flat_map ids_of ls)) (and_of (fresh seen (ids_of l)) (fresh (seen ++ ids_of l) (flat_map ids_of ls)) (one_fresh seen l l.kind l.value k.0) later.ids);
      targets = all_join (among all) (targets_of l) (flat_map targets_of ls) (all_of_none (untargeted all l.name) (among all) (λ x n. empty_unless (among all x) _ n) (targets_of l) m.0) later.targets;
      entities = all_join (is_unparsed set) (entities_of l) (flat_map entities_of ls) (all_of_none (unnamed set l.name) (is_unparsed set) (λ x n. empty_unless (is_unparsed set x) _ n) (entities_of l) m.1) later.entities;
    }

pub none_of_right : (set : Declarations) (all seen : List (List ℕ)) (links : List Link) → AreRight set all seen links → links_causes set all seen links ≡ []
none_of_right set all seen [] right = refl
none_of_right set all seen (l ∷ ls) right =
    let ids = of_and (fresh seen (ids_of l)) (fresh (seen ++ ids_of l) (flat_map ids_of ls)) (subst (λ b. IsTrue b) (fresh_append seen (ids_of l) (flat_map ids_of ls)) right.ids) in
    let targets = all_part (among all) (targets_of l) (flat_map targets_of ls) right.targets in
    let entities = all_part (is_unparsed set) (entities_of l) (flat_map entities_of ls) right.entities in
    empty_both (link_causes set all seen l) (links_causes set all (seen ++ ids_of l) ls)
    (empty_both (flat_map (repeated seen l.name) (ids_of l)) (flat_map (untargeted all l.name) (targets_of l) ++ flat_map (unnamed set l.name) (entities_of l)) (fresh_one seen l l.kind l.value ids.0)
    (empty_both (flat_map (untargeted all l.name) (targets_of l)) (flat_map (unnamed set l.name) (entities_of l))
    (none_of_all (untargeted all l.name) (among all) (λ x t. unless_empty (among all x) _ t) (targets_of l) targets.0)
    (none_of_all (unnamed set l.name) (is_unparsed set) (λ x t. unless_empty (is_unparsed set x) _ t) (entities_of l) entities.0)))
    (none_of_right set all (seen ++ ids_of l) ls (record { ids = ids.1; targets = targets.1; entities = entities.1 }))

-- ---- nodes in order

-- nothing is wrong with the links of nodes, each behind the IDs before it
abbrev pub NoneFrom : Declarations → List (List ℕ) → List (List ℕ) → List Node → Type 0
NoneFrom set all seen [] = Unit {0}
NoneFrom set all seen (node ∷ nodes) = (links_causes set all seen (links_in set node) ≡ []) × NoneFrom set all (seen ++ ids_in set node) nodes

pub linked_of : (set : Declarations) (all seen : List (List ℕ)) (nodes : List Node) → NoneFrom set all seen nodes → IsTrue (fresh seen (flat_map (ids_in set) nodes)) × AllByRecursion (IsLinked set all) nodes
linked_of set all seen [] none = (refl, tt)
linked_of set all seen (node ∷ nodes) none =
    let here = right_of_none set all seen (links_in set node) none.0 in
    let later = linked_of set all (seen ++ ids_in set node) nodes none.1 in (
      rw (fresh_append seen (ids_in set node) (flat_map (ids_in set) nodes)) (and_of (fresh seen (ids_in set node)) (fresh (seen ++ ids_in set node) (flat_map (ids_in set) nodes)) here.ids later.0),
      (record { targets = here.targets; entities = here.entities }, later.1),
    )

pub of_linked : (set : Declarations) (all seen : List (List ℕ)) (nodes : List Node) → IsTrue (fresh seen (flat_map (ids_in set) nodes)) → AllByRecursion (IsLinked set all) nodes → NoneFrom set all seen nodes
of_linked set all seen [] differ linked = tt
of_linked set all seen (node ∷ nodes) differ linked =
    let ids = of_and (fresh seen (ids_in set node)) (fresh (seen ++ ids_in set node) (flat_map (ids_in set) nodes)) (subst (λ b. IsTrue b) (fresh_append seen (ids_in set node) (flat_map (ids_in set) nodes)) differ) in (
      none_of_right set all seen (links_in set node) (record { ids = ids.0; targets = linked.0.targets; entities = linked.0.entities }),
      of_linked set all (seen ++ ids_in set node) nodes ids.1 linked.1,
    )
