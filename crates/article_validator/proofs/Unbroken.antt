-- No node is broken exactly where every node meets its declaration.
use Rattle.std.proofs.Common.{◌≡◌, Bool, true, false, ◌&&◌, cond, List, [], ◌∷◌, Some, None, refl, IsTrue}
use Rattle.std.specs.Prelude.{Option, option_map}
use Rattle.std.specs.List.{AllByRecursion, list_all}
use Rattle.std.specs.Option.{option_or}
use Rattle.content_models.specs.declared.content.Content.{Content}
use Rattle.content_models.specs.Kinds.{text_kind}
use Rattle.document_trees.specs.Trees.{Attribute, Node, child_names, nodes_in}
use Rattle.document_trees.specs.Laws.{OfNode}
use Rattle.document_trees.proofs.Listed.{each_listed, listed_each}
use Rattle.attlist_merge.specs.Lists.{Definitions}
use Rattle.attlist_merge.specs.Oddness.{first_some}
use Rattle.attlist_merge.specs.Values.{is_allowed, is_given}
use Rattle.decl_set.specs.Asked.{IsKept}
use Rattle.decl_set.specs.Declarations.{Declarations, content_in, attributes_in}
use Rattle.decl_set.specs.Validity.{Meets, MeetsContent, is_text_allowed}
use Rattle.decl_set.specs.declared.breaks.Cause.TheVariants as cause
use Rattle.article_validator.specs.Deriving.{is_derived}
use Rattle.article_validator.specs.First.{unallowed, ungiven, wrong_attribute, broken_by, broken_in, first_broken}
use Rattle.article_validator.specs.Laws.{NoneBroken}
use Rattle.article_validator.proofs.Deriving.{derived_by_states}
use Rattle.article_validator.proofs.Differing.{and_of, of_and}
use Rattle.article_validator.proofs.Structure.{IsDeterministicIfAny}
use Rattle.article_validator.proofs.Valid.{kept_one}

neither : {X : Type 0} (o p : Option X) → option_or o p ≡ None → (o ≡ None) × (p ≡ None)
neither None p e = (refl, e)
neither (Some x) p e = cc

both_none : {X : Type 0} (o p : Option X) → o ≡ None → p ≡ None → option_or o p ≡ None
both_none None p e f = f
both_none (Some x) p e f = cc

none_unless : {X : Type 0} (b : Bool) (x : X) → cond b None (Some x) ≡ None → IsTrue b
none_unless true x e = refl
none_unless false x e = cc

unless_none : {X : Type 0} (b : Bool) (x : X) → IsTrue b → cond b None (Some x) ≡ None
unless_none true x t = refl
unless_none false x t = cc

all_pass : {X Y : Type 0} (f : X → Option Y) (test : X → Bool) → ((x : X) → f x ≡ None → IsTrue (test x)) → (xs : List X) → first_some f xs ≡ None → IsTrue (list_all test xs)
all_pass f test each [] e = refl
all_pass f test each (x ∷ xs) e = let h = neither (f x) (first_some f xs) e in and_of (test x) (list_all test xs) (each x h.0) (all_pass f test each xs h.1)

pass_all : {X Y : Type 0} (f : X → Option Y) (test : X → Bool) → ((x : X) → IsTrue (test x) → f x ≡ None) → (xs : List X) → IsTrue (list_all test xs) → first_some f xs ≡ None
pass_all f test each [] t = refl
pass_all f test each (x ∷ xs) t = let h = of_and (test x) (list_all test xs) t in both_none (f x) (first_some f xs) (each x h.0) (pass_all f test each xs h.1)

right_of_none : (list : Definitions) (atts : List Attribute) → wrong_attribute list atts ≡ None → IsTrue (list_all (is_allowed list) atts && list_all (is_given atts) list)
right_of_none list atts e =
    let h = neither (first_some (unallowed list) atts) (first_some (ungiven atts) list) e in
    and_of (list_all (is_allowed list) atts) (list_all (is_given atts) list)
    (all_pass (unallowed list) (is_allowed list) (λ a n. none_unless (is_allowed list a) a.0 n) atts h.0)
    (all_pass (ungiven atts) (is_given atts) (λ x n. none_unless (is_given atts x) x.0 n) list h.1)

none_of_right : (list : Definitions) (atts : List Attribute) → IsTrue (list_all (is_allowed list) atts && list_all (is_given atts) list) → wrong_attribute list atts ≡ None
none_of_right list atts t =
    let h = of_and (list_all (is_allowed list) atts) (list_all (is_given atts) list) t in
    both_none (first_some (unallowed list) atts) (first_some (ungiven atts) list)
    (pass_all (unallowed list) (is_allowed list) (λ a n. unless_none (is_allowed list a) a.0 n) atts h.0)
    (pass_all (ungiven atts) (is_given atts) (λ x n. unless_none (is_given atts x) x.0 n) list h.1)

mapped_none : {X Y : Type 0} (f : X → Y) (o : Option X) → option_map f o ≡ None → o ≡ None
mapped_none f None e = refl
mapped_none f (Some x) e = cc

none_mapped : {X Y : Type 0} (f : X → Y) (o : Option X) → o ≡ None → option_map f o ≡ None
none_mapped f None e = refl
none_mapped f (Some x) e = cc

-- what is left where a test passes
passed : {X : Type 0} (b : Bool) (o : Option X) (x : X) → cond b o (Some x) ≡ None → IsTrue b × (o ≡ None)
passed true o x e = (refl, e)
passed false o x e = cc

passing : {X : Type 0} (b : Bool) (o : Option X) (x : X) → IsTrue b → o ≡ None → cond b o (Some x) ≡ None
passing true o x t e = e
passing false o x t e = cc

meets_of_none : (o : Option Content) (list : Definitions) (node : Node) → IsDeterministicIfAny o → broken_by o list node ≡ None → MeetsContent o list node.atts node.items
meets_of_none None list node one e = cc
meets_of_none (Some content) list node one e =
    let attribute = option_map (λ name. cause.Attribute name) (wrong_attribute list node.atts) in
    let h = passed (is_derived content (child_names node.items)) (cond (is_text_allowed (text_kind content) node.items) attribute (Some cause.Text)) cause.Content e in
    let k = passed (is_text_allowed (text_kind content) node.items) attribute cause.Text h.1 in
    record {
      content = (derived_by_states content (child_names node.items) one).0 h.0;
      suits = record { text = k.0; attributes = right_of_none list node.atts (mapped_none (λ name. cause.Attribute name) (wrong_attribute list node.atts) k.1) };
    }

none_of_meets : (o : Option Content) (list : Definitions) (node : Node) → IsDeterministicIfAny o → MeetsContent o list node.atts node.items → broken_by o list node ≡ None
none_of_meets None list node one meets = absurd meets
none_of_meets (Some content) list node one meets =
    let attribute = option_map (λ name. cause.Attribute name) (wrong_attribute list node.atts) in
    passing (is_derived content (child_names node.items)) (cond (is_text_allowed (text_kind content) node.items) attribute (Some cause.Text)) cause.Content ((derived_by_states content (child_names node.items) one).1 meets.content)
    (passing (is_text_allowed (text_kind content) node.items) attribute cause.Text meets.suits.text
    (none_mapped (λ name. cause.Attribute name) (wrong_attribute list node.atts) (none_of_right list node.atts meets.suits.attributes)))

module _ (set : Declarations) (kept : IsKept set) where
  each_meets : (nodes : List Node) → first_some (broken_in set) nodes ≡ None → AllByRecursion (OfNode (Meets set)) nodes
  each_meets [] e = tt
  each_meets (node ∷ nodes) e =
      let h = neither (broken_in set node) (first_some (broken_in set) nodes) e in (
        meets_of_none (content_in set node.name) (attributes_in set node.name) node (kept_one set.elements node.name kept.elements_are) (mapped_none _ (broken_by (content_in set node.name) (attributes_in set node.name) node) h.0),
        each_meets nodes h.1,
      )

  meets_each : (nodes : List Node) → AllByRecursion (OfNode (Meets set)) nodes → first_some (broken_in set) nodes ≡ None
  meets_each [] all = refl
  meets_each (node ∷ nodes) all =
      both_none (broken_in set node) (first_some (broken_in set) nodes)
      (none_mapped _ (broken_by (content_in set node.name) (attributes_in set node.name) node) (none_of_meets (content_in set node.name) (attributes_in set node.name) node (kept_one set.elements node.name kept.elements_are) all.0))
      (meets_each nodes all.1)

pub none_broken : NoneBroken
unfolding first_broken
none_broken set node kept = ((λ e. listed_each (Meets set) node (each_meets set kept (nodes_in node) e)), (λ meets. meets_each set kept (nodes_in node) (each_listed (Meets set) node meets)))
