-- Names in lines of what breaks are Names.
use Rattle.std.proofs.Common.{◌≡◌, ℕ, Bool, true, false, cond, List, [], ◌∷◌, Some, None, IsTrue, refl, subst, not, ◌&&◌}
use Rattle.std.specs.Prelude.{Option, option_map}
use Rattle.std.specs.List.{AllByRecursion}
use Rattle.std.specs.Option.{option_or}
use Rattle.std.proofs.lemmas.Bool.{and_parts}
use Rattle.jats_chars.specs.Names.{is_name}
use Rattle.content_models.specs.declared.content.Content.{Content}
use Rattle.content_models.specs.Kinds.{text_kind}
use Rattle.document_trees.specs.Trees.{Attribute, Node, IsDocument, IsWellMade, are_attributes, are_chars, child_names, has_attribute, nodes_in}
use Rattle.document_trees.specs.Laws.{OfNode}
use Rattle.document_trees.proofs.Listed.{all-part, document_in_list}
use Rattle.attribute_types.specs.Proper.{sample_of}
use Rattle.attribute_types.specs.Table.{uncovered}
use Rattle.attlist_merge.specs.Lists.{Definitions, Entry, definition_of, is_required}
use Rattle.attlist_merge.specs.Oddness.{against, first_some, odd_missing, odd_of, odd_value, requires}
use Rattle.attlist_merge.specs.Values.{is_allowed, is_given}
use Rattle.attlist_merge.specs.declared.list.Definition.{Definition}
use Rattle.attlist_merge.specs.declared.odd.OddAtt.{OddAtt}
use Rattle.attlist_merge.specs.declared.odd.OddAtt.TheVariants as att
use Rattle.decl_set.specs.Asked.{IsElement, IsKept}
use Rattle.decl_set.specs.Breaks.{BreaksBy, IsFirstBroken, cause_of, odd_name}
use Rattle.decl_set.specs.Declarations.{Declarations, Element, attributes_in, content_in}
use Rattle.decl_set.specs.Oddness.{more_text, odd_by}
use Rattle.decl_set.specs.Validity.{is_text_allowed}
use Rattle.decl_set.specs.declared.breaks.BrokenDecl.{BrokenDecl}
use Rattle.decl_set.specs.declared.breaks.Cause.{Cause}
use Rattle.decl_set.specs.declared.breaks.Cause.TheVariants as cause
use Rattle.decl_set.specs.declared.breaks.Odd.TheVariants as odd
use Rattle.decl_set.proofs.Found.{IsDefined, attributes_defined}
use Rattle.article_validator.specs.Deriving.{is_derived}
use Rattle.article_validator.specs.First.{broken_by, broken_in, first_broken, unallowed, ungiven, wrong_attribute}

abbrev pub HasName : Cause → Type 0
HasName cause.Undeclared = Unit {0}
HasName cause.Content = Unit {0}
HasName cause.Text = Unit {0}
HasName (cause.Attribute name) = IsTrue (is_name name)

-- the element and the attribute, where there is one, have Names
pub record IsNamed (broken : BrokenDecl) : Type 0 where
  pub element : IsTrue (is_name broken.element)
  pub cause : HasName broken.cause

abbrev Named : List ℕ → Type 0
Named name = IsTrue (is_name name)

-- ---- the first that a function gives

either : {Y : Type 0} (Q : Y → Type 0) (o p : Option Y) (y : Y) → ((z : Y) → o ≡ Some z → Q z) → ((z : Y) → p ≡ Some z → Q z) → option_or o p ≡ Some y → Q y
either Q None p y one other is = other y is
either Q (Some z) p y one other is = let same : z ≡ y = cc in subst Q same (one z refl)

given : {X Y : Type 0} (f : X → Option Y) (P : X → Type 0) (Q : Y → Type 0) → ((x : X) → P x → (y : Y) → f x ≡ Some y → Q y) → (xs : List X) → AllByRecursion P xs → (y : Y) → first_some f xs ≡ Some y → Q y
given f P Q each [] all y is = cc
given f P Q each (x ∷ xs) all y is = either Q (f x) (first_some f xs) y (λ z e. each x all.0 z e) (λ z e. given f P Q each xs all.1 z e) is

unless_named : (b : Bool) (name other : List ℕ) → Named name → cond b None (Some name) ≡ Some other → Named other
unless_named true name other named is = cc
unless_named false name other named is = let same : name ≡ other = cc in subst Named same named

-- ---- names of attributes

atts_named : (atts : List Attribute) → are_attributes atts ≡ true → AllByRecursion (λ a. Named a.0) atts
atts_named [] are = tt
atts_named (a ∷ atts) are =
    let parts = and_parts (is_name a.0) (are_chars a.1 && (not (has_attribute atts a.0) && are_attributes atts)) are in
    let more = and_parts (are_chars a.1) (not (has_attribute atts a.0) && are_attributes atts) parts.1 in
    (parts.0, atts_named atts (and_parts (not (has_attribute atts a.0)) (are_attributes atts) more.1).1)

list_named : (list : Definitions) → AllByRecursion IsDefined list → AllByRecursion (λ e. Named e.0) list
list_named [] d = tt
list_named (e ∷ es) d = ((and_parts (is_name e.0) _ d.0.1).0, list_named es d.1)

wrong_named : (list : Definitions) (atts : List Attribute) (name : List ℕ) → AllByRecursion (λ e. Named e.0) list → AllByRecursion (λ a. Named a.0) atts → wrong_attribute list atts ≡ Some name → Named name
wrong_named list atts name l a is =
    either Named (first_some (unallowed list) atts) (first_some (ungiven atts) list) name
    (given (unallowed list) (λ a. Named a.0) Named (λ x named y e. unless_named (is_allowed list x) x.0 y named e) atts a)
    (given (ungiven atts) (λ e. Named e.0) Named (λ x named y e. unless_named (is_given atts x) x.0 y named e) list l)
    is

-- ---- the first broken node

caused : (derived allowed : Bool) (o : Option (List ℕ)) (k : Cause) → ((name : List ℕ) → o ≡ Some name → Named name)
    → cond derived (cond allowed (option_map (λ name. cause.Attribute name) o) (Some cause.Text)) (Some cause.Content) ≡ Some k → HasName k
caused true true None k named is = cc
caused true true (Some name) k named is = let same : cause.Attribute name ≡ k = cc in subst HasName same (named name refl)
caused true false o k named is = let same : cause.Text ≡ k = cc in subst HasName same tt
caused false allowed o k named is = let same : cause.Content ≡ k = cc in subst HasName same tt

cause_named : (o : Option Content) (list : Definitions) (node : Node) (k : Cause) → AllByRecursion (λ e. Named e.0) list → AllByRecursion (λ a. Named a.0) node.atts → broken_by o list node ≡ Some k → HasName k
cause_named None list node k l a is = let same : cause.Undeclared ≡ k = cc in subst HasName same tt
cause_named (Some content) list node k l a is =
    caused (is_derived content (child_names node.items)) (is_text_allowed (text_kind content) node.items) (wrong_attribute list node.atts) k (λ name e. wrong_named list node.atts name l a e) is

node_named : (set : Declarations) → IsKept set → (node : Node) → OfNode IsWellMade node → (broken : BrokenDecl) → broken_in set node ≡ Some broken → IsNamed broken
node_named set kept node made broken is = by (broken_by (content_in set node.name) (attributes_in set node.name) node) refl is
  where
    by : (o : Option Cause) → broken_by (content_in set node.name) (attributes_in set node.name) node ≡ o → option_map (λ k. record { element = node.name; cause = k }) o ≡ Some broken → IsNamed broken
    by None e is = cc
    by (Some k) e is =
        let same : record { element = node.name; cause = k } ≡ broken = cc in
        subst IsNamed same (record {
          element = made.named;
          cause = cause_named (content_in set node.name) (attributes_in set node.name) node k (list_named (attributes_in set node.name) (attributes_defined set node.name kept)) (atts_named node.atts made.attributes) e;
        })

-- of a document
pub first_named : (set : Declarations) (node : Node) (broken : BrokenDecl) → IsKept set → IsDocument node → first_broken set node ≡ Some broken → IsNamed broken
unfolding first_broken
first_named set node broken kept document is = given (broken_in set) (OfNode IsWellMade) IsNamed (node_named set kept) (nodes_in node) ((document_in_list node).0 document) broken is

-- ---- the first element that breaks

against_named : (e : Entry) (d : Option Definition) (o : OddAtt) → Named e.0 → against e d ≡ Some o → Named (odd_name o)
against_named e None o named is = let same : att.Undeclared e.0 (sample_of e.1.class) ≡ o = cc in subst (λ (x : OddAtt). Named (odd_name x)) same named
against_named e (Some d) o named is = by (uncovered e.1.class d.class) is
  where
    by : (v : Option (List ℕ)) → option_map (λ value. att.Value e.0 value) v ≡ Some o → Named (odd_name o)
    by None is = cc
    by (Some value) is = let same : att.Value e.0 value ≡ o = cc in subst (λ (x : OddAtt). Named (odd_name x)) same named

missing_named : (list : Definitions) (e : Entry) (o : OddAtt) → Named e.0 → odd_missing list e ≡ Some o → Named (odd_name o)
missing_named list e o named is = by (is_required e.1.preset && not (requires list e.0)) is
  where
    by : (b : Bool) → cond b (Some (att.Missing e.0)) None ≡ Some o → Named (odd_name o)
    by true is = let same : att.Missing e.0 ≡ o = cc in subst (λ (x : OddAtt). Named (odd_name x)) same named
    by false is = cc

odd_named : (list other : Definitions) (o : OddAtt) → AllByRecursion (λ e. Named e.0) list → AllByRecursion (λ e. Named e.0) other → odd_of list other ≡ Some o → Named (odd_name o)
odd_named list other o l m is =
    either (λ (x : OddAtt). Named (odd_name x)) (first_some (odd_value other) list) (first_some (odd_missing list) other) o
    (given (odd_value other) (λ e. Named e.0) (λ (x : OddAtt). Named (odd_name x)) (λ e named x h. against_named e (definition_of other e.0) x named h) list l)
    (given (odd_missing list) (λ e. Named e.0) (λ (x : OddAtt). Named (odd_name x)) (λ e named x h. missing_named list e x named h) other m)
    is

odd_cause : (a b : Option Content) (list other : Definitions) (k : Cause) → AllByRecursion (λ e. Named e.0) list → AllByRecursion (λ e. Named e.0) other
    → option_map cause_of (odd_by a b list other) ≡ Some k → HasName k
odd_cause None b list other k l m is = cc
odd_cause (Some a) None list other k l m is = let same : cause.Undeclared ≡ k = cc in subst HasName same tt
odd_cause (Some a) (Some b) list other k l m is = by (more_text (text_kind a) (text_kind b)) (odd_of list other) refl is
  where
    by : (more : Bool) (o : Option OddAtt) → odd_of list other ≡ o → option_map cause_of (cond more (Some odd.Text) (option_map odd.Attribute o)) ≡ Some k → HasName k
    by true o e is = let same : cause.Text ≡ k = cc in subst HasName same tt
    by false None e is = cc
    by false (Some x) e is = let same : cause.Attribute (odd_name x) ≡ k = cc in subst HasName same (odd_named list other x l m e)

breaks_named : (first : Declarations) (a b : Option Content) (list other : Definitions) (k : Cause) → AllByRecursion (λ e. Named e.0) list → AllByRecursion (λ e. Named e.0) other
    → BreaksBy first a b list other k → HasName k
breaks_named first a b list other cause.Undeclared l m is = tt
breaks_named first a b list other cause.Content l m is = tt
breaks_named first a b list other cause.Text l m is = tt
breaks_named first a b list other (cause.Attribute name) l m is = odd_cause a b list other (cause.Attribute name) l m is.1

pub useful_named : (first second : Declarations) (root : List ℕ) (broken : BrokenDecl) → IsKept first → IsKept second → IsFirstBroken first second root broken.element broken.cause → IsNamed broken
useful_named first second root broken kf ks is = record {
  element = (all-part IsElement is.before ((broken.element, is.declared) ∷ is.after) (subst (λ (es : List Element). AllByRecursion IsElement es) is.place kf.elements_are)).1.0.named;
  cause = breaks_named first (content_in first broken.element) (content_in second broken.element) (attributes_in first broken.element) (attributes_in second broken.element) broken.cause
      (list_named (attributes_in first broken.element) (attributes_defined first broken.element kf)) (list_named (attributes_in second broken.element) (attributes_defined second broken.element ks)) is.breaks;
}
