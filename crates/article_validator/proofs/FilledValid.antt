-- A document that is valid is so with its defaults.
use Rattle.std.proofs.Common.{◌≡◌, ◌∙◌, ℕ, Bool, true, false, not, ◌&&◌, ◌||◌, cond, List, [], ◌∷◌, ◌++◌, Some, None, refl, ap, sym, subst, IsTrue, bytes_eq}
use Rattle.std.specs.Prelude.{Option, is_none}
use Rattle.std.specs.List.{flat_map, list_all, AllByRecursion}
use Rattle.std.proofs.lemmas.Bool.{and_parts, and_from}
use Rattle.std.proofs.lemmas.Slice.Eq.{bytes_eq-Decides}
use Rattle.content_models.specs.declared.content.Content.{Content}
use Rattle.content_models.specs.declared.content.TextKind.{TextKind}
use Rattle.content_models.specs.declared.content.TextKind.TheVariants.{NoItems, White, All}
use Rattle.content_models.specs.Kinds.{text_kind}
use Rattle.content_models.specs.Model.{Chars, Derives}
use Rattle.document_trees.specs.Trees.{Attribute, Items, nothing, element, chars, comment, pi, has_attribute, child_names, elements_alone, runs_plain, EachBelow}
use Rattle.attribute_types.specs.declared.types.AttType.{AttType}
use Rattle.attribute_types.specs.declared.types.AttType.TheVariants as kind
use Rattle.attribute_types.specs.declared.types.Preset.{Preset}
use Rattle.attribute_types.specs.declared.types.Preset.TheVariants as preset
use Rattle.attribute_types.specs.Spacing.{collapsed}
use Rattle.attribute_types.specs.Classes.{in_class}
use Rattle.attribute_types.specs.Types.{class_of}
use Rattle.attlist_merge.specs.Lists.{Entry, Definitions, definition_of, value_in, is_required, is_settled, is_outside, are_distinct, IsSound}
use Rattle.attlist_merge.specs.Lists as lists
use Rattle.attlist_merge.specs.Values.{is_allowed, is_given, is_right}
use Rattle.decl_set.proofs.Found.{attributes_kept}
use Rattle.decl_set.specs.Asked.{IsKept}
use Rattle.decl_set.specs.Declarations.{Declarations, content_in, attributes_in}
use Rattle.decl_set.specs.Validity.{Meets, MeetsContent, is_text_allowed}
use Rattle.article_validator.specs.Filling.{valued, default_of, filled_by, filled_atts, filled_items}
use Rattle.article_validator.specs.Laws.{FilledValid}
use Rattle.article_validator.proofs.Filled.{has_more, same_name}

-- ---- items

module _ (set : Declarations) where
  names_filled : (items : Items) → child_names (filled_items set items) ≡ child_names items
  names_filled nothing = refl
  names_filled (element name atts inside later) = ap (λ names. name ∷ names) (names_filled later)
  names_filled (chars text plain later) = names_filled later
  names_filled (comment text later) = names_filled later
  names_filled (pi target body later) = names_filled later

  alone_filled : (items : Items) → elements_alone (filled_items set items) ≡ elements_alone items
  alone_filled nothing = refl
  alone_filled (element name atts inside later) = alone_filled later
  alone_filled (chars text plain later) = refl
  alone_filled (comment text later) = refl
  alone_filled (pi target body later) = refl

  plain_filled : (items : Items) → runs_plain (filled_items set items) ≡ runs_plain items
  plain_filled nothing = refl
  plain_filled (element name atts inside later) = plain_filled later
  plain_filled (chars text plain later) = ap (λ b. plain && b) (plain_filled later)
  plain_filled (comment text later) = plain_filled later
  plain_filled (pi target body later) = plain_filled later

  text_filled : (kind : TextKind) (items : Items) → is_text_allowed kind (filled_items set items) ≡ is_text_allowed kind items
  text_filled NoItems items = alone_filled items
  text_filled White items = plain_filled items
  text_filled All items = refl

-- ---- values of presets

not_false : (b : Bool) → not b ≡ false → b ≡ true
not_false true e = refl
not_false false e = cc

value_inside : (k : AttType) (p : Preset) (v : List ℕ) → is_settled k p ≡ true → is_outside k p ≡ false → value_in p ≡ Some v → in_class (class_of k p) v ≡ true
value_inside k preset.Required v settled inside e = cc
value_inside k preset.Implied v settled inside e = cc
value_inside k (preset.Value t) v settled inside e = let same : t ≡ v = cc in subst (λ x. in_class (class_of k (preset.Value t)) x ≡ true) same (not_false (in_class (class_of k (preset.Value t)) t) inside)
value_inside k (preset.Fixed t) v settled inside e = let same : t ≡ v = cc in by k settled same
  where
    by : (k : AttType) → is_settled k (preset.Fixed t) ≡ true → t ≡ v → in_class (class_of k (preset.Fixed t)) v ≡ true
    by kind.Cdata s same = subst (λ x. bytes_eq x t ≡ true) same (same_name t)
    by kind.Id s same = subst (λ x. bytes_eq (collapsed x) t ≡ true) same s
    by kind.Idref s same = subst (λ x. bytes_eq (collapsed x) t ≡ true) same s
    by kind.Idrefs s same = subst (λ x. bytes_eq (collapsed x) t ≡ true) same s
    by kind.Entity s same = subst (λ x. bytes_eq (collapsed x) t ≡ true) same s
    by kind.Entities s same = subst (λ x. bytes_eq (collapsed x) t ≡ true) same s
    by kind.Nmtoken s same = subst (λ x. bytes_eq (collapsed x) t ≡ true) same s
    by kind.Nmtokens s same = subst (λ x. bytes_eq (collapsed x) t ≡ true) same s
    by (kind.Notation names) s same = subst (λ x. bytes_eq (collapsed x) t ≡ true) same s
    by (kind.Enumeration tokens) s same = subst (λ x. bytes_eq (collapsed x) t ≡ true) same s

-- ---- definitions by name

abbrev Found : Definitions → Entry → Type 0
Found list e = definition_of list e.0 ≡ Some e.1

found_behind : (x : Entry) (xs : Definitions) (e : Entry) → is_none (definition_of xs x.0) ≡ true → Found xs e → Found (x ∷ xs) e
found_behind x xs e apart found = by (bytes_eq e.0 x.0) refl
  where
    by : (b : Bool) → bytes_eq e.0 x.0 ≡ b → cond b (Some x.1) (definition_of xs e.0) ≡ Some e.1
    by false is = found
    by true is =
        let same : e.0 ≡ x.0 = (bytes_eq-Decides e.0 x.0).0 is in
        let there : definition_of xs x.0 ≡ Some e.1 = subst (λ (n : List ℕ). definition_of xs n ≡ Some e.1) same found in
        absurd (let off : false ≡ true = ap is_none (sym there) ∙ apart in cc)

all_behind : (x : Entry) (xs es : Definitions) → is_none (definition_of xs x.0) ≡ true → AllByRecursion (Found xs) es → AllByRecursion (Found (x ∷ xs)) es
all_behind x xs [] apart all = tt
all_behind x xs (e ∷ es) apart all = (found_behind x xs e apart all.0, all_behind x xs es apart all.1)

all_found : (list : Definitions) → are_distinct list ≡ true → AllByRecursion (Found list) list
all_found [] d = tt
all_found (x ∷ xs) d =
    let parts = and_parts (is_none (definition_of xs x.0)) (are_distinct xs) d in
    let here : Found (x ∷ xs) x = ap (λ b. cond b (Some x.1) (definition_of xs x.0)) (same_name x.0) in
    (here, all_behind x xs xs parts.0 (all_found xs parts.1))

-- ---- attributes

all_more : (p : Attribute → Bool) (xs ys : List Attribute) → IsTrue (list_all p xs) → IsTrue (list_all p ys) → IsTrue (list_all p (xs ++ ys))
all_more p [] ys all more = more
all_more p (x ∷ xs) ys all more = let parts = and_parts (p x) (list_all p xs) all in and_from (p x) (list_all p (xs ++ ys)) parts.0 (all_more p xs ys parts.1 more)

module _ (list : Definitions) (atts : List Attribute) where
  one_allowed : (e : Entry) → IsSound e → Found list e → IsTrue (list_all (is_allowed list) (default_of atts e))
  one_allowed e sound found = by (has_attribute atts e.0) (value_in e.1.preset) refl
    where
      inside : (v : List ℕ) → value_in e.1.preset ≡ Some v → is_allowed list (e.0, v) ≡ true
      inside v is = rw (found, sound.class) (value_inside e.1.kind e.1.preset v sound.settled sound.inside is)

      by : (b : Bool) (o : Option (List ℕ)) → value_in e.1.preset ≡ o → IsTrue (list_all (is_allowed list) (cond b [] (valued e o)))
      by true o is = refl
      by false None is = refl
      by false (Some v) is = and_from (is_allowed list (e.0, v)) true (inside v is) refl

  defaults_allowed : (es : Definitions) → AllByRecursion IsSound es → AllByRecursion (Found list) es → IsTrue (list_all (is_allowed list) (flat_map (default_of atts) es))
  defaults_allowed [] sound found = refl
  defaults_allowed (e ∷ es) sound found = all_more (is_allowed list) (default_of atts e) (flat_map (default_of atts) es) (one_allowed e sound.0 found.0) (defaults_allowed es sound.1 found.1)

or_more : (a b c : Bool) → (IsTrue b → IsTrue c) → IsTrue (a || b) → IsTrue (a || c)
or_more true b c wider t = refl
or_more false b c wider t = wider t

given_more : (atts more : List Attribute) (es : Definitions) → IsTrue (list_all (is_given atts) es) → IsTrue (list_all (is_given (atts ++ more)) es)
given_more atts more [] all = refl
given_more atts more (e ∷ es) all =
    let parts = and_parts (is_given atts e) (list_all (is_given atts) es) all in
    and_from (is_given (atts ++ more) e) (list_all (is_given (atts ++ more)) es)
    (or_more (not (is_required e.1.preset)) (has_attribute atts e.0) (has_attribute (atts ++ more) e.0) (has_more atts more e.0) parts.0) (given_more atts more es parts.1)

right_filled : (list : Definitions) → lists.IsKept list → (atts : List Attribute) → IsTrue (is_right list atts) → IsTrue (is_right list (atts ++ flat_map (default_of atts) list))
right_filled list kept atts right =
    let ds = flat_map (default_of atts) list in
    let parts = and_parts (list_all (is_allowed list) atts) (list_all (is_given atts) list) right in
    and_from (list_all (is_allowed list) (atts ++ ds)) (list_all (is_given (atts ++ ds)) list)
    (all_more (is_allowed list) atts ds parts.0 (defaults_allowed list atts list kept.definitions (all_found list kept.names))) (given_more atts ds list parts.1)

-- ---- nodes

module _ (set : Declarations) (kept : IsKept set) where
  node_filled : (name : List ℕ) (atts : List Attribute) (items : Items) → Meets set name atts items → Meets set name (filled_atts set name atts) (filled_items set items)
  node_filled name atts items = by (content_in set name)
    where
      list : Definitions
      list = attributes_in set name

      by : (o : Option Content) → MeetsContent o list atts items → MeetsContent o list (filled_by o list atts) (filled_items set items)
      by None meets = meets
      by (Some content) meets = record {
        content = subst (λ (names : List Chars). Derives content names) (sym (names_filled set items)) meets.content;
        suits = record {
          text = subst IsTrue (sym (text_filled set (text_kind content) items)) meets.suits.text;
          attributes = right_filled list (attributes_kept set name kept) atts meets.suits.attributes;
        };
      }

  below_filled : (items : Items) → EachBelow (Meets set) items → EachBelow (Meets set) (filled_items set items)
  below_filled nothing all = tt
  below_filled (element name atts inside later) all = (node_filled name atts inside all.0, below_filled inside all.1, below_filled later all.2)
  below_filled (chars text plain later) all = below_filled later all
  below_filled (comment text later) all = below_filled later all
  below_filled (pi target body later) all = below_filled later all

pub filled_valid : FilledValid
filled_valid set root node kept valid = (valid.0, (node_filled set kept node.name node.atts node.items valid.1.0, below_filled set kept node.items valid.1.1))
