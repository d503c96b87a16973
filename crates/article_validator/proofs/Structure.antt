-- Nothing is wrong in a node by its declaration exactly where it meets it.
use Rattle.std.proofs.Common.{◌≡◌, Bool, true, false, ◌&&◌, cond, List, [], ◌∷◌, ◌++◌, Some, None, refl, IsTrue}
use Rattle.std.specs.Prelude.{Option}
use Rattle.std.specs.List.{flat_map, list_all}
use Rattle.std.specs.Option.{option_map_or}
use Rattle.content_models.specs.declared.content.Content.{Content}
use Rattle.content_models.specs.Kinds.{text_kind}
use Rattle.document_trees.specs.Trees.{Attribute, Node, child_names}
use Rattle.position_automata.specs.Automata.{IsDeterministic}
use Rattle.attribute_types.specs.Classes.{in_class}
use Rattle.attlist_merge.specs.declared.list.Definition.{Definition}
use Rattle.attlist_merge.specs.Lists.{Definitions, definition_of}
use Rattle.attlist_merge.specs.Values.{is_allowed, is_given}
use Rattle.decl_set.specs.Validity.{MeetsContent, is_text_allowed}
use Rattle.article_validator.specs.Deriving.{is_derived}
use Rattle.article_validator.specs.Structure.{content_causes, text_causes, specified_by, specified_causes, missing_causes, attribute_causes, causes_by}
use Rattle.article_validator.proofs.Deriving.{derived_by_states}

-- ---- lists without items

pub both_empty : {X : Type 0} (xs ys : List X) → xs ++ ys ≡ [] → (xs ≡ []) × (ys ≡ [])
both_empty [] ys e = (refl, e)
both_empty (x ∷ xs) ys e = cc

pub empty_both : {X : Type 0} (xs ys : List X) → xs ≡ [] → ys ≡ [] → xs ++ ys ≡ []
empty_both [] ys e f = f
empty_both (x ∷ xs) ys e f = cc

pub empty_unless : {X : Type 0} (b : Bool) (x : X) → cond b [] (x ∷ []) ≡ [] → IsTrue b
empty_unless true x e = refl
empty_unless false x e = cc

pub unless_empty : {X : Type 0} (b : Bool) (x : X) → IsTrue b → cond b [] (x ∷ []) ≡ []
unless_empty true x t = refl
unless_empty false x t = cc

and_of : (a b : Bool) → IsTrue a → IsTrue b → IsTrue (a && b)
and_of true b s t = t
and_of false b s t = cc

of_and : (a b : Bool) → IsTrue (a && b) → IsTrue a × IsTrue b
of_and true b t = (refl, t)
of_and false b t = cc

-- no item comes of a list exactly where each of its items passes
pub all_of_none : {X Y : Type 0} (f : X → List Y) (test : X → Bool) → ((x : X) → f x ≡ [] → IsTrue (test x)) → (xs : List X) → flat_map f xs ≡ [] → IsTrue (list_all test xs)
all_of_none f test each [] e = refl
all_of_none f test each (x ∷ xs) e = let h = both_empty (f x) (flat_map f xs) e in and_of (test x) (list_all test xs) (each x h.0) (all_of_none f test each xs h.1)

pub none_of_all : {X Y : Type 0} (f : X → List Y) (test : X → Bool) → ((x : X) → IsTrue (test x) → f x ≡ []) → (xs : List X) → IsTrue (list_all test xs) → flat_map f xs ≡ []
none_of_all f test each [] t = refl
none_of_all f test each (x ∷ xs) t = let h = of_and (test x) (list_all test xs) t in empty_both (f x) (flat_map f xs) (each x h.0) (none_of_all f test each xs h.1)

-- ---- attributes

specified_allowed : (list : Definitions) (a : Attribute) → specified_causes list a ≡ [] → IsTrue (is_allowed list a)
specified_allowed list a e = by (definition_of list a.0) e
  where
    by : (o : Option Definition) → specified_by a o ≡ [] → IsTrue (option_map_or (λ d. in_class d.class a.1) o false)
    by None e = cc
    by (Some d) e = empty_unless (in_class d.class a.1) _ e

allowed_specified : (list : Definitions) (a : Attribute) → IsTrue (is_allowed list a) → specified_causes list a ≡ []
allowed_specified list a t = by (definition_of list a.0) t
  where
    by : (o : Option Definition) → IsTrue (option_map_or (λ d. in_class d.class a.1) o false) → specified_by a o ≡ []
    by None t = cc
    by (Some d) t = unless_empty (in_class d.class a.1) _ t

pub right_of_none : (list : Definitions) (atts : List Attribute) → attribute_causes list atts ≡ [] → IsTrue (list_all (is_allowed list) atts && list_all (is_given atts) list)
right_of_none list atts e =
    let h = both_empty (flat_map (specified_causes list) atts) (flat_map (missing_causes atts) list) e in
    and_of (list_all (is_allowed list) atts) (list_all (is_given atts) list)
    (all_of_none (specified_causes list) (is_allowed list) (specified_allowed list) atts h.0)
    (all_of_none (missing_causes atts) (is_given atts) (λ x n. empty_unless (is_given atts x) _ n) list h.1)

pub none_of_right : (list : Definitions) (atts : List Attribute) → IsTrue (list_all (is_allowed list) atts && list_all (is_given atts) list) → attribute_causes list atts ≡ []
none_of_right list atts t =
    let h = of_and (list_all (is_allowed list) atts) (list_all (is_given atts) list) t in
    empty_both (flat_map (specified_causes list) atts) (flat_map (missing_causes atts) list)
    (none_of_all (specified_causes list) (is_allowed list) (allowed_specified list) atts h.0)
    (none_of_all (missing_causes atts) (is_given atts) (λ x n. unless_empty (is_given atts x) _ n) list h.1)

-- ---- nodes

-- a content, where there is one, is deterministic
abbrev pub IsDeterministicIfAny : Option Content → Type 0
IsDeterministicIfAny None = Unit {0}
IsDeterministicIfAny (Some content) = IsDeterministic content

pub meets_of_none : (o : Option Content) (list : Definitions) (node : Node) → IsDeterministicIfAny o → causes_by o list node ≡ [] → MeetsContent o list node.atts node.items
meets_of_none None list node one e = cc
meets_of_none (Some content) list node one e =
    let h = both_empty (content_causes content node.items) (text_causes content node.items ++ attribute_causes list node.atts) e in
    let k = both_empty (text_causes content node.items) (attribute_causes list node.atts) h.1 in
    record {
      content = (derived_by_states content (child_names node.items) one).0 (empty_unless (is_derived content (child_names node.items)) _ h.0);
      suits = record { text = empty_unless (is_text_allowed (text_kind content) node.items) _ k.0; attributes = right_of_none list node.atts k.1 };
    }

pub none_of_meets : (o : Option Content) (list : Definitions) (node : Node) → IsDeterministicIfAny o → MeetsContent o list node.atts node.items → causes_by o list node ≡ []
none_of_meets None list node one meets = absurd meets
none_of_meets (Some content) list node one meets =
    empty_both (content_causes content node.items) (text_causes content node.items ++ attribute_causes list node.atts)
    (unless_empty (is_derived content (child_names node.items)) _ ((derived_by_states content (child_names node.items) one).1 meets.content))
    (empty_both (text_causes content node.items) (attribute_causes list node.atts) (unless_empty (is_text_allowed (text_kind content) node.items) _ meets.suits.text)
    (none_of_right list node.atts meets.suits.attributes))
