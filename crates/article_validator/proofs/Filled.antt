-- A document with its defaults: valid where it was, and filled once.
use Rattle.std.proofs.Common.{◌≡◌, ◌∙◌, ℕ, Bool, true, false, ◌||◌, cond, List, [], ◌∷◌, ◌++◌, Some, None, refl, ap, IsTrue, bytes_eq, append-nil}
use Rattle.std.specs.Prelude.{Option}
use Rattle.std.specs.List.{flat_map, AllByRecursion}
use Rattle.std.proofs.lemmas.Slice.Eq.{bytes_eq-Decides}
use Rattle.content_models.specs.declared.content.Content.{Content}
use Rattle.document_trees.specs.Trees.{Attribute, Items, nothing, element, chars, comment, pi, Node, has_attribute}
use Rattle.document_trees.proofs.Listed.{all-part}
use Rattle.attlist_merge.specs.Lists.{Entry, Definitions, value_in}
use Rattle.decl_set.specs.Declarations.{Declarations, content_in, attributes_in}
use Rattle.article_validator.specs.Filling.{valued, default_of, filled_by, filled_atts, filled_items}
use Rattle.article_validator.specs.Laws.{FilledOnce}

-- ---- names that are there

abbrev Within : List Attribute → Attribute → Type 0
Within atts a = IsTrue (has_attribute atts a.0)

or_left : (a b : Bool) → IsTrue a → IsTrue (a || b)
or_left true b t = refl
or_left false b t = cc

or_right : (a b : Bool) → IsTrue b → IsTrue (a || b)
or_right true b t = refl
or_right false b t = t

pub same_name : (name : List ℕ) → bytes_eq name name ≡ true
same_name name = (bytes_eq-Decides name name).1 refl

pub has_more : (xs ys : List Attribute) (name : List ℕ) → IsTrue (has_attribute xs name) → IsTrue (has_attribute (xs ++ ys) name)
has_more [] ys name t = cc
has_more (x ∷ xs) ys name t = elim (bytes_eq name x.0) as (λ b. IsTrue (b || has_attribute xs name) → IsTrue (b || has_attribute (xs ++ ys) name)) [ true ↦ λ s. refl | false ↦ λ s. has_more xs ys name s ] t

has_behind : (xs ys : List Attribute) (name : List ℕ) → IsTrue (has_attribute ys name) → IsTrue (has_attribute (xs ++ ys) name)
has_behind [] ys name t = t
has_behind (x ∷ xs) ys name t = or_right (bytes_eq name x.0) (has_attribute (xs ++ ys) name) (has_behind xs ys name t)

widen : (P Q : Attribute → Type 0) (xs : List Attribute) → ((a : Attribute) → P a → Q a) → AllByRecursion P xs → AllByRecursion Q xs
widen P Q [] each all = tt
widen P Q (x ∷ xs) each all = (each x all.0, widen P Q xs each all.1)

within_self : (xs : List Attribute) → AllByRecursion (Within xs) xs
within_self [] = tt
within_self (x ∷ xs) = (
  or_left (bytes_eq x.0 x.0) (has_attribute xs x.0) (same_name x.0),
  widen (Within xs) (Within (x ∷ xs)) xs (λ a t. or_right (bytes_eq a.0 x.0) (has_attribute xs a.0) t) (within_self xs),
)

-- ---- filled once

abbrev unless : Bool → List Attribute → List Attribute
unless b atts = cond b [] atts

nothing_valued : (b : Bool) → unless b [] ≡ []
nothing_valued true = refl
nothing_valued false = refl

there : (e : Entry) (value : List ℕ) (b : Bool) → IsTrue b → unless b ((e.0, value) ∷ []) ≡ []
there e value true t = refl
there e value false t = cc

defaulted : (atts w : List Attribute) (e : Entry) → ((name : List ℕ) → IsTrue (has_attribute atts name) → IsTrue (has_attribute w name)) → AllByRecursion (Within w) (default_of atts e) → default_of w e ≡ []
defaulted atts w e wider all = by (has_attribute atts e.0) refl (value_in e.1.preset) all
  where
    by : (b : Bool) → has_attribute atts e.0 ≡ b → (o : Option (List ℕ)) → AllByRecursion (Within w) (unless b (valued e o)) → unless (has_attribute w e.0) (valued e o) ≡ []
    by b is None all = nothing_valued (has_attribute w e.0)
    by true is (Some value) all = there e value (has_attribute w e.0) (wider e.0 is)
    by false is (Some value) all = there e value (has_attribute w e.0) all.0

all_defaulted : (atts w : List Attribute) (es : Definitions) → ((name : List ℕ) → IsTrue (has_attribute atts name) → IsTrue (has_attribute w name)) → AllByRecursion (Within w) (flat_map (default_of atts) es) → flat_map (default_of w) es ≡ []
all_defaulted atts w [] wider all = refl
all_defaulted atts w (e ∷ es) wider all =
    let parts = all-part (Within w) (default_of atts e) (flat_map (default_of atts) es) all in
    rw (defaulted atts w e wider parts.0, all_defaulted atts w es wider parts.1) refl

pub atts_once : (o : Option Content) (list : Definitions) (atts : List Attribute) → filled_by o list (filled_by o list atts) ≡ filled_by o list atts
atts_once None list atts = refl
atts_once (Some content) list atts =
    let ds = flat_map (default_of atts) list in
    let w = atts ++ ds in
    let none = all_defaulted atts w list (λ name t. has_more atts ds name t) (widen (Within ds) (Within w) ds (λ a t. has_behind atts ds a.0 t) (within_self ds)) in
    ap (λ more. w ++ more) none ∙ append-nil w

items_once : (set : Declarations) (items : Items) → filled_items set (filled_items set items) ≡ filled_items set items
items_once set nothing = refl
items_once set (element name atts inside later) =
    ap (λ a. element name a (filled_items set (filled_items set inside)) (filled_items set (filled_items set later))) (atts_once (content_in set name) (attributes_in set name) atts)
    ∙ ap (λ i. element name (filled_atts set name atts) i (filled_items set (filled_items set later))) (items_once set inside)
    ∙ ap (λ l. element name (filled_atts set name atts) (filled_items set inside) l) (items_once set later)
items_once set (chars text plain later) = ap (λ l. chars text plain l) (items_once set later)
items_once set (comment text later) = ap (λ l. comment text l) (items_once set later)
items_once set (pi target body later) = ap (λ l. pi target body l) (items_once set later)

abbrev holding : List ℕ → List Attribute → Items → Node
holding name atts items = record { name = name; atts = atts; items = items }

pub filled_once : FilledOnce
filled_once set node =
    ap (λ a. holding node.name a (filled_items set (filled_items set node.items))) (atts_once (content_in set node.name) (attributes_in set node.name) node.atts)
    ∙ ap (λ i. holding node.name (filled_atts set node.name node.atts) i) (items_once set node.items)
