-- What is listed where each ID is kept once is what the definition lists.
use Rattle.std.proofs.Common.{◌≡◌, ◌∙◌, ℕ, suc, Bool, true, false, cond, ◌||◌, List, [], ◌∷◌, ◌++◌, map, refl, sym, ap, bytes_eq, append_assoc, append-nil}
use Rattle.std.specs.List.{list_any, flat_map}
use Rattle.std.proofs.lemmas.Slice.Eq.{bytes_eq-Decides}
use Rattle.indexmap.specs.IndexSet.{insert_key, insert_all}
use Rattle.document_trees.specs.Trees.{Node, nodes_in}
use Rattle.attribute_types.specs.Classes.{among}
use Rattle.decl_set.specs.Declarations.{Declarations}
use Rattle.article_validator.specs.declared.fault.Invalid.{Invalid}
use Rattle.article_validator.specs.declared.fault.InvalidCause.TheVariants as cause
use Rattle.article_validator.specs.Faults.{invalid, faults_from, root_faults, fault_list}
use Rattle.article_validator.specs.Links.{Link, all_ids, ids_in, ids_of, targets_of, entities_of, repeated, untargeted, unnamed, link_causes, links_causes, links_in}
use Rattle.article_validator.specs.Listing.{kept_causes, kept_from}
use Rattle.article_validator.specs.Structure.{causes_in}

abbrev pub Same : List (List ℕ) → List (List ℕ) → Type 0
Same keys ids = (id : List ℕ) → among keys id ≡ among ids id

any_joined : (p : List ℕ → Bool) (xs ys : List (List ℕ)) → list_any p (xs ++ ys) ≡ (list_any p xs || list_any p ys)
any_joined p [] ys = refl
any_joined p (x ∷ xs) ys = elim (p x) as (λ b. (b || list_any p (xs ++ ys)) ≡ ((b || list_any p xs) || list_any p ys)) [ true ↦ refl | false ↦ any_joined p xs ys ]

or_true : (b : Bool) → (b || true) ≡ true
or_true true = refl
or_true false = refl

or_false : (b : Bool) → (b || false) ≡ b
or_false true = refl
or_false false = refl

-- a key that is there already changes nothing
there : (keys : List (List ℕ)) (one id : List ℕ) (b : Bool) → bytes_eq id one ≡ b → among keys one ≡ true → among keys id ≡ (among keys id || (b || false))
there keys one id true q t = ap (among keys) ((bytes_eq-Decides id one).0 q) ∙ (t ∙ sym (or_true (among keys id)))
there keys one id false q t = sym (or_false (among keys id))

inserted : (keys : List (List ℕ)) (one id : List ℕ) (b : Bool) → among keys one ≡ b → among (cond b keys (keys ++ one ∷ [])) id ≡ among (keys ++ one ∷ []) id
inserted keys one id true t = there keys one id (bytes_eq id one) refl t ∙ sym (any_joined (bytes_eq id) keys (one ∷ []))
inserted keys one id false t = refl

same_one : (keys ids : List (List ℕ)) (one : List ℕ) → Same keys ids → Same (insert_key bytes_eq keys one) (ids ++ one ∷ [])
same_one keys ids one same id =
    inserted keys one id (among keys one) refl
    ∙ (any_joined (bytes_eq id) keys (one ∷ []) ∙ (ap (λ b. b || (bytes_eq id one || false)) (same id) ∙ sym (any_joined (bytes_eq id) ids (one ∷ []))))

pub same_all : (keys ids more : List (List ℕ)) → Same keys ids → Same (insert_all bytes_eq keys more) (ids ++ more)
same_all keys ids [] same id = same id ∙ ap (λ xs. among xs id) (sym (append-nil ids))
same_all keys ids (one ∷ more) same id =
    same_all (insert_key bytes_eq keys one) (ids ++ one ∷ []) more (same_one keys ids one same) id ∙ ap (λ xs. among xs id) (append_assoc ids (one ∷ []) more)

each_same : {X Y : Type 0} (f g : X → List Y) → ((x : X) → f x ≡ g x) → (xs : List X) → flat_map f xs ≡ flat_map g xs
each_same f g same [] = refl
each_same f g same (x ∷ xs) = ap (λ ys. ys ++ flat_map f xs) (same x) ∙ ap (λ ys. g x ++ ys) (each_same f g same xs)

module _ (set : Declarations) (every all : List (List ℕ)) (known : Same every all) where
  link_same : (keys seen : List (List ℕ)) → Same keys seen → (l : Link) → link_causes set every keys l ≡ link_causes set all seen l
  link_same keys seen same l =
      let first = each_same (repeated keys l.name) (repeated seen l.name) (λ id. ap (λ b. cond b (cause.RepeatedId l.name id ∷ []) []) (same id)) (ids_of l) in
      let second = each_same (untargeted every l.name) (untargeted all l.name) (λ id. ap (λ b. cond b [] (cause.NoTarget l.name id ∷ [])) (known id)) (targets_of l) in
      let rest = flat_map (unnamed set l.name) (entities_of l) in
      ap (λ cs. cs ++ (flat_map (untargeted every l.name) (targets_of l) ++ rest)) first ∙ ap (λ cs. flat_map (repeated seen l.name) (ids_of l) ++ (cs ++ rest)) second

  links_same : (keys seen : List (List ℕ)) → Same keys seen → (ls : List Link) → kept_causes set every keys ls ≡ links_causes set all seen ls
  links_same keys seen same [] = refl
  links_same keys seen same (l ∷ ls) =
      ap (λ cs. cs ++ kept_causes set every (insert_all bytes_eq keys (ids_of l)) ls) (link_same keys seen same l)
      ∙ ap (λ cs. link_causes set all seen l ++ cs) (links_same (insert_all bytes_eq keys (ids_of l)) (seen ++ ids_of l) (same_all keys seen (ids_of l) same) ls)

  nodes_same : (number : ℕ) (keys seen : List (List ℕ)) → Same keys seen → (nodes : List Node) → kept_from set every number keys nodes ≡ faults_from set all number seen nodes
  nodes_same number keys seen same [] = refl
  nodes_same number keys seen same (node ∷ nodes) =
      let later = insert_all bytes_eq keys (ids_in set node) in
      ap (λ cs. map (invalid number node.name) (causes_in set node ++ cs) ++ kept_from set every (suc number) later nodes) (links_same keys seen same (links_in set node))
      ∙ ap (λ is. map (invalid number node.name) (causes_in set node ++ links_causes set all seen (links_in set node)) ++ is) (nodes_same (suc number) later (seen ++ ids_in set node) (same_all keys seen (ids_in set node) same) nodes)

-- the list of faults
pub listed : (set : Declarations) (root : List ℕ) (node : Node) (every : List (List ℕ)) (mid now : List Invalid) → every ≡ insert_all bytes_eq [] (all_ids set node) → mid ≡ root_faults root node
    → now ≡ mid ++ kept_from set every 1 [] (nodes_in node) → now ≡ fault_list set root node
unfolding fault_list
listed set root node every mid now e f g =
    let known : Same every (all_ids set node) = λ id. ap (λ xs. among xs id) e ∙ same_all [] [] (all_ids set node) (λ x. refl) id in
    g ∙ (ap (λ is. is ++ kept_from set every 1 [] (nodes_in node)) f ∙ ap (λ is. root_faults root node ++ is) (nodes_same set every (all_ids set node) known 1 [] [] (λ x. refl) (nodes_in node)))
