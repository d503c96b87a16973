-- Each declared element has attributes with which it is right.
use Rattle.std.proofs.Common.{◌≡◌, ℕ, Bool, true, ◌&&◌, not, List, [], ◌∷◌, refl, sym, subst, Option, Some, None, IsTrue}
use Rattle.std.specs.List.{list_all, AllByRecursion}
use Rattle.std.proofs.lemmas.Bool.{and_parts, and_from}
use Rattle.jats_chars.specs.Chars.{are_chars}
use Rattle.jats_chars.specs.Names.{is_name}
use Rattle.content_models.specs.declared.content.Content.{Content}
use Rattle.content_models.specs.Kinds.{text_kind}
use Rattle.content_models.specs.Model.{Chars}
use Rattle.document_trees.specs.Trees.{Attribute, Items, are_attributes, has_attribute}
use Rattle.attribute_types.specs.Chars.{has_chars, preset_has_chars}
use Rattle.attribute_types.specs.declared.types.Preset.{Preset}
use Rattle.attribute_types.specs.declared.types.Preset.TheVariants as preset
use Rattle.attlist_merge.specs.Lists as lists
use Rattle.attlist_merge.specs.Lists.{Entry, Definitions, IsSound}
use Rattle.attlist_merge.specs.Shown.{required_of, classes_have_chars, values_have_chars}
use Rattle.attlist_merge.specs.Values as values
use Rattle.attlist_merge.specs.Values.{Values, is_right}
use Rattle.attlist_merge.proofs.Samples.{class_has_chars, required_right, required_of_chars, required_named}
use Rattle.decl_set.specs.Declarations.{Declarations, content_in, attributes_in}
use Rattle.decl_set.specs.Asked.{IsKept, is_definition}
use Rattle.decl_set.specs.Validity.{TextAllowed, SuitsContent, Suits}
use Rattle.decl_set.proofs.Found.{IsDefined, attributes_defined, attributes_kept}
use Rattle.decl_set.proofs.Suiting.{allowed_alone}
use Rattle.tree_costs.specs.Beside.{IsRight, EachHasRight}

-- ---- the lists of a set

abbrev opt_chars : Option (List ℕ) → Bool
opt_chars None = true
opt_chars (Some text) = are_chars text

-- the value of a definition that a set keeps is of Chars
preset_chars : (e : Entry) → is_definition e ≡ true → preset_has_chars e.1.preset ≡ true
preset_chars e d = by e.1.preset (and_parts (is_name e.0) _ d).1
  where
    by : (p : Preset) → opt_chars (lists.value_in p) ≡ true → preset_has_chars p ≡ true
    by preset.Required h = refl
    by preset.Implied h = refl
    by (preset.Value text) h = h
    by (preset.Fixed text) h = h

pub classes_chars : (list : Definitions) → AllByRecursion IsDefined list → classes_have_chars list ≡ true
classes_chars [] d = refl
classes_chars (e ∷ es) d =
    and_from (has_chars e.1.class) (classes_have_chars es) (class_has_chars e d.0.0 (preset_chars e d.0.1)) (classes_chars es d.1)

pub names_are : (list : Definitions) → AllByRecursion IsDefined list → list_all (λ e. is_name e.0) list ≡ true
names_are [] d = refl
names_are (e ∷ es) d =
    and_from (is_name e.0) (list_all (λ (e : Entry). is_name e.0) es) (and_parts (is_name e.0) _ d.0.1).0 (names_are es d.1)

-- ---- values as attributes

pub made_attributes : (xs : Values) → list_all (λ x. is_name x.0) xs ≡ true → values_have_chars xs ≡ true → values.are_apart xs ≡ true → are_attributes xs ≡ true
made_attributes [] n c a = refl
made_attributes (x ∷ xs) n c a =
    let p = and_parts (is_name x.0) (list_all (λ (x : Attribute). is_name x.0) xs) n in
    let q = and_parts (are_chars x.1) (values_have_chars xs) c in
    let r = and_parts (not (has_attribute xs x.0)) (values.are_apart xs) a in
    and_from (is_name x.0) (are_chars x.1 && (not (has_attribute xs x.0) && are_attributes xs)) p.0
    (and_from (are_chars x.1) (not (has_attribute xs x.0) && are_attributes xs) q.0
    (and_from (not (has_attribute xs x.0)) (are_attributes xs) r.0 (made_attributes xs p.1 q.1 r.1)))

-- the required attributes with their samples are well made and right
pub required_made : (list : Definitions) → lists.IsKept list → AllByRecursion IsDefined list → are_attributes (required_of list) ≡ true
required_made list k d =
    made_attributes (required_of list) (required_named is_name list (names_are list d)) (required_of_chars list (classes_chars list d)) (required_right list k).1

-- ---- the law

pub suits_in : (set : Declarations) (e : Chars) (a : Content) (atts : List Attribute) (items : Items) → content_in set e ≡ Some a
    → TextAllowed (text_kind a) items → IsTrue (is_right (attributes_in set e) atts) → Suits set e atts items
suits_in set e a atts items q t r = subst (λ o. SuitsContent o (attributes_in set e) atts items) (sym q) (record { text = t; attributes = r })

pub each_has_right : EachHasRight
each_has_right set e a k q =
    let list = attributes_in set e in
    let kept = attributes_kept set e k in (
      required_of list,
      record {
        attributes = required_made list kept (attributes_defined set e k);
        items = λ inside h. h;
        suits = λ inside h. suits_in set e a (required_of list) inside q (allowed_alone (text_kind a) inside h) (required_right list kept).0;
      },
    )
