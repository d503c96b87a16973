-- What stands at a place in a list of names that differ, and what is found there by name.
use Rattle.std.proofs.Common.{◌≡◌, ◌∙◌, ℕ, zero, suc, Bool, true, false, cond, not, ◌||◌, List, [], ◌∷◌, refl, sym, ap, subst, Option, Some, None, bytes_eq, slice_get, unwrap_or}
use Rattle.std.specs.Prelude.{option_map}
use Rattle.std.specs.List.{list_any, list_all, AllByRecursion}
use Rattle.std.specs.Map.{lookup}
use Rattle.std.proofs.lemmas.Bool.{and_parts, not-true}
use Rattle.attribute_types.proofs.TextTests.{on_test, bytes_same, bytes_own, bytes_swap}
use Rattle.content_models.specs.declared.content.Content.{Content}
use Rattle.attlist_merge.specs.Lists as lists
use Rattle.attlist_merge.specs.Lists.{Definitions, Entry, IsSound}
use Rattle.decl_set.specs.Asked.{IsKept, IsElement, IsList, are_apart, is_definition}
use Rattle.decl_set.specs.Declarations.{Declarations, name_of, content_in, list_in, attributes_in}

-- ---- lists of names with what they stand for

or_false : (a b : Bool) → (a || b) ≡ false → (a ≡ false) × (b ≡ false)
or_false true b h = cc
or_false false b h = (refl, h)

module _ {X : Type 0} where
  pub fails_at : (p : List ℕ × X → Bool) (es : List (List ℕ × X)) (k : ℕ) (e : List ℕ × X) → list_any p es ≡ false → slice_get es k ≡ Some e → p e ≡ false
  fails_at p [] k e none at = cc
  fails_at p (x ∷ es) zero e none at = let same : x ≡ e = cc in ap p (sym same) ∙ (or_false (p x) (list_any p es) none).0
  fails_at p (x ∷ es) (suc k) e none at = fails_at p es k e (or_false (p x) (list_any p es) none).1 at

  -- what stands at a place is found by its name
  pub found_at : (es : List (List ℕ × X)) (k : ℕ) (e : List ℕ × X) → are_apart es ≡ true → slice_get es k ≡ Some e → lookup (bytes_eq e.0) es ≡ Some e.1
  found_at [] k e apart at = cc
  found_at (x ∷ es) zero e apart at =
      let same : x ≡ e = cc in
      let P : List ℕ × X → Type 0 = λ y. lookup (bytes_eq y.0) (x ∷ es) ≡ Some y.1 in
      subst P same (ap (λ b. cond b (Some x.1) (lookup (bytes_eq x.0) es)) (bytes_own x.0))
  found_at (x ∷ es) (suc k) e apart at =
      let parts = and_parts (not (list_any (λ other. bytes_eq x.0 other.0) es)) (are_apart es) apart in
      let off = bytes_swap x.0 e.0 (fails_at (λ other. bytes_eq x.0 other.0) es k e (not-true _ parts.0) at) in
      ap (λ b. cond b (Some x.1) (lookup (bytes_eq e.0) es)) off ∙ found_at es k e parts.1 at

  -- what is found by its name stands at a place
  pub stands : (es : List (List ℕ × X)) (name : List ℕ) (x : X) → lookup (bytes_eq name) es ≡ Some x → (k : ℕ) × (slice_get es k ≡ Some (name, x))
  stands [] name x found = cc
  stands (e ∷ es) name x found =
      let P : Bool → Type 0 = λ b. bytes_eq name e.0 ≡ b → cond b (Some e.1) (lookup (bytes_eq name) es) ≡ Some x → (k : ℕ) × (slice_get (e ∷ es) k ≡ Some (name, x)) in
      on_test P (bytes_eq name e.0)
      (λ t q found. let same : e.1 ≡ x = cc in (0, ap (λ y. Some (e.0, y)) same ∙ ap (λ n. Some (n, x)) (sym (bytes_same name e.0 q))))
      (λ t q found. let later = stands es name x found in (suc later.0, later.1))
      refl found

  -- the name at a place, with what is found by it
  pub placed : (es : List (List ℕ × X)) (k : ℕ) (name : List ℕ) (x : X) → are_apart es ≡ true → Some name ≡ option_map name_of (slice_get es k) → lookup (bytes_eq name) es ≡ Some x
      → slice_get es k ≡ Some (name, x)
  placed es k name x apart named found = by (slice_get es k) refl named
    where
      by : (o : Option (List ℕ × X)) → slice_get es k ≡ o → Some name ≡ option_map name_of o → slice_get es k ≡ Some (name, x)
      by None at named = cc
      by (Some e) at named =
          let same : name ≡ e.0 = cc in
          let here = found_at es k e apart at in
          let there : Some e.1 ≡ Some x = sym here ∙ subst (λ (n : List ℕ). lookup (bytes_eq n) es ≡ Some x) same found in
          let is : e.1 ≡ x = cc in
          at ∙ ap (λ y. Some (e.0, y)) is ∙ ap (λ n. Some (n, x)) (sym same)

  -- each name that stands at a place has something
  pub has_place : (es : List (List ℕ × X)) (k : ℕ) (name : List ℕ) → are_apart es ≡ true → Some name ≡ option_map name_of (slice_get es k) → lookup (bytes_eq name) es ≡ None → ⊥
  has_place es k name apart named none = by (slice_get es k) refl named
    where
      by : (o : Option (List ℕ × X)) → slice_get es k ≡ o → Some name ≡ option_map name_of o → ⊥
      by None at named = cc
      by (Some e) at named =
          let same : name ≡ e.0 = cc in
          let here = found_at es k e apart at in
          let there : Some e.1 ≡ None = sym here ∙ subst (λ (n : List ℕ). lookup (bytes_eq n) es ≡ None) same none in cc

  -- what holds of each holds of what stands at a place, and of what is found by name
  pub all_at : (P : List ℕ × X → Type 0) (es : List (List ℕ × X)) (k : ℕ) (e : List ℕ × X) → AllByRecursion P es → slice_get es k ≡ Some e → P e
  all_at P [] k e all at = cc
  all_at P (x ∷ es) zero e all at = let same : x ≡ e = cc in subst P same all.0
  all_at P (x ∷ es) (suc k) e all at = all_at P es k e all.1 at

  pub all_found : (P : List ℕ × X → Type 0) (es : List (List ℕ × X)) (name : List ℕ) (x : X) → AllByRecursion P es → lookup (bytes_eq name) es ≡ Some x → P (name, x)
  all_found P es name x all found = let there = stands es name x found in all_at P es there.0 (name, x) all there.1

-- ---- sets

-- an element that is found is one that a set keeps
pub element_is : (set : Declarations) (name : List ℕ) (content : Content) → IsKept set → content_in set name ≡ Some content → IsElement (name, content)
element_is set name content kept found = all_found IsElement set.elements name content kept.elements_are found

-- and a list
pub list_is : (set : Declarations) (name : List ℕ) (list : Definitions) → IsKept set → list_in set name ≡ Some list → IsList (name, list)
list_is set name list kept found = all_found IsList set.lists name list kept.lists_are found

-- a definition of a list: it is sound, its name is a Name, and its value is of Chars
abbrev pub IsDefined : Entry → Type 0
IsDefined e = IsSound e × (is_definition e ≡ true)

pub all_defined : (list : Definitions) → AllByRecursion IsSound list → list_all is_definition list ≡ true → AllByRecursion IsDefined list
all_defined [] sound chars = tt
all_defined (e ∷ es) sound chars =
    let parts = and_parts (is_definition e) (list_all is_definition es) chars in
    ((sound.0, parts.0), all_defined es sound.1 parts.1)

-- the attributes of an element, which may be none
pub attributes_defined : (set : Declarations) (name : List ℕ) → IsKept set → AllByRecursion IsDefined (attributes_in set name)
attributes_defined set name kept = by (list_in set name) refl
  where
    by : (o : Option Definitions) → list_in set name ≡ o → AllByRecursion IsDefined (unwrap_or o [])
    by None found = tt
    by (Some list) found = let l = list_is set name list kept found in all_defined list l.kept.definitions l.definitions

-- their names differ, and they keep the constraints of a list
pub attributes_kept : (set : Declarations) (name : List ℕ) → IsKept set → lists.IsKept (attributes_in set name)
attributes_kept set name kept = by (list_in set name) refl
  where
    by : (o : Option Definitions) → list_in set name ≡ o → lists.IsKept (unwrap_or o [])
    by None found = record { names = refl; definitions = tt; ids = refl; notations = refl }
    by (Some list) found = (list_is set name list kept found).kept
