-- What a set keeps where its lists grow.
use Rattle.std.proofs.Common.{◌≡◌, ◌∙◌, ◌+◌, ◌≤◌, ◌<◌, ℕ, Bool, true, false, cond, not, ◌||◌, ◌&&◌, List, [], ◌∷◌, ◌++◌, length, refl, ap, subst, Some, None, Ok, bytes_eq, arith, length-append}
use Rattle.std.specs.List.{list_any, list_all, AllByRecursion}
use Rattle.std.specs.Map.{lookup}
use Rattle.std.proofs.lemmas.Bool.{and_parts, and_from, not-true, not_from_false}
use Rattle.std.proofs.lemmas.List.Folds.{list_any-append, list_all-append}
use Rattle.std.proofs.lemmas.List.Sums.{sum_by_push}
use Rattle.attribute_types.proofs.TextTests.{on_test, bytes_same, bytes_swap}
use Rattle.jats_chars.specs.Names.{is_name}
use Rattle.content_models.specs.declared.content.Content.{Content}
use Rattle.attlist_merge.specs.Lists.{Definitions}
use Rattle.entity_catalog.specs.declared.ids.Ids.{Ids}
use Rattle.position_automata.specs.Judged.{judged}
use Rattle.decl_set.specs.Asked.{IsKept, IsElement, IsList, are_apart, is_entity, is_entity_kept, are_ids, is_notation_kept}
use Rattle.decl_set.specs.Declarations.{Declarations, Element, AttributesOf, content_in, entity_in, notation_in, follows_of, follows_in}
use Rattle.decl_set.specs.Declaring.{with_list}
use Rattle.decl_set.specs.declared.entity.EntityDef.{EntityDef}

-- ---- one item more

pub all_pushed : {X : Type 0} (P : X → Type 0) (xs : List X) (x : X) → AllByRecursion P xs → P x → AllByRecursion P (xs ++ x ∷ [])
all_pushed P [] x all h = (h, tt)
all_pushed P (y ∷ ys) x all h = (all.0, all_pushed P ys x all.1 h)

pub tests_pushed : {X : Type 0} (p : X → Bool) (xs : List X) (x : X) → list_all p xs ≡ true → p x ≡ true → list_all p (xs ++ x ∷ []) ≡ true
tests_pushed p xs x all h =
    list_all-append p xs (x ∷ []) ∙ and_from (list_all p xs) (p x && true) all (and_from (p x) true h refl)

pub length_pushed : {X : Type 0} (xs : List X) (x : X) → length (xs ++ x ∷ []) ≡ length xs + 1
length_pushed xs x = length-append xs (x ∷ [])

-- ---- names that differ

-- a name that is not found differs from the first, and from those of the rest
pub name_apart : {X : Type 0} (e : List ℕ × X) (es : List (List ℕ × X)) (name : List ℕ) → lookup (bytes_eq name) (e ∷ es) ≡ None → (bytes_eq name e.0 ≡ false) × (lookup (bytes_eq name) es ≡ None)
name_apart e es name none =
    let Q : Bool → Type 0 = λ b. cond b (Some e.1) (lookup (bytes_eq name) es) ≡ None → (b ≡ false) × (lookup (bytes_eq name) es ≡ None) in
    on_test Q (bytes_eq name e.0) (λ t h. cc) (λ t h. (refl, h)) none

none_pushed : {X : Type 0} (first : List ℕ) (es : List (List ℕ × X)) (e : List ℕ × X) → list_any (λ other. bytes_eq first other.0) es ≡ false → bytes_eq first e.0 ≡ false → list_any (λ other. bytes_eq first other.0) (es ++ e ∷ []) ≡ false
none_pushed first es e none off =
    list_any-append (λ other. bytes_eq first other.0) es (e ∷ []) ∙ ap (λ b. b || (bytes_eq first e.0 || false)) none ∙ ap (λ b. b || false) off

pub apart_pushed : {X : Type 0} (es : List (List ℕ × X)) (e : List ℕ × X) → are_apart es ≡ true → lookup (bytes_eq e.0) es ≡ None → are_apart (es ++ e ∷ []) ≡ true
apart_pushed [] e apart new = refl
apart_pushed (x ∷ xs) e apart new =
    let parts = and_parts (not (list_any (λ other. bytes_eq x.0 other.0) xs)) (are_apart xs) apart in
    let off = name_apart x xs e.0 new in
    and_from (not (list_any (λ other. bytes_eq x.0 other.0) (xs ++ e ∷ []))) (are_apart (xs ++ e ∷ []))
    (not_from_false _ (none_pushed x.0 xs e (not-true _ parts.0) (bytes_swap e.0 x.0 off.0)))
    (apart_pushed xs e parts.1 off.1)

-- ---- a list in its place, or last

-- a list for a name that is not there goes last
pub with_list_new : (ls : List AttributesOf) (element : List ℕ) (list : Definitions) → lookup (bytes_eq element) ls ≡ None → with_list ls element list ≡ ls ++ (element, list) ∷ []
with_list_new [] element list new = refl
with_list_new (l ∷ ls) element list new =
    let off = name_apart l ls element new in
    ap (λ b. cond b ((l.0, list) ∷ ls) (l ∷ with_list ls element list)) off.0 ∙ ap (λ rest. l ∷ rest) (with_list_new ls element list off.1)

none_listed : (first : List ℕ) (ls : List AttributesOf) (element : List ℕ) (list : Definitions) → list_any (λ other. bytes_eq first other.0) ls ≡ false → bytes_eq first element ≡ false → list_any (λ other. bytes_eq first other.0) (with_list ls element list) ≡ false
none_listed first [] element list none off = ap (λ b. b || false) off
none_listed first (l ∷ ls) element list none off =
    let Q : Bool → Type 0 = λ b. list_any (λ other. bytes_eq first other.0) (cond b ((l.0, list) ∷ ls) (l ∷ with_list ls element list)) ≡ false in
    let R : Bool → Type 0 = λ b. (b || list_any (λ other. bytes_eq first other.0) ls) ≡ false → (b || list_any (λ other. bytes_eq first other.0) (with_list ls element list)) ≡ false in
    on_test Q (bytes_eq element l.0) (λ t. none) (λ t. on_test R (bytes_eq first l.0) (λ u h. cc) (λ u h. none_listed first ls element list h off) none)

pub apart_listed : (ls : List AttributesOf) (element : List ℕ) (list : Definitions) → are_apart ls ≡ true → are_apart (with_list ls element list) ≡ true
apart_listed [] element list apart = refl
apart_listed (l ∷ ls) element list apart =
    let Q : Bool → Type 0 = λ b. are_apart (cond b ((l.0, list) ∷ ls) (l ∷ with_list ls element list)) ≡ true in
    let parts = and_parts (not (list_any (λ other. bytes_eq l.0 other.0) ls)) (are_apart ls) apart in
    on_test Q (bytes_eq element l.0)
    (λ t. apart)
    (λ t. and_from (not (list_any (λ other. bytes_eq l.0 other.0) (with_list ls element list))) (are_apart (with_list ls element list))
    (not_from_false _ (none_listed l.0 ls element list (not-true _ parts.0) (bytes_swap element l.0 t)))
    (apart_listed ls element list parts.1))

pub all_listed : (P : AttributesOf → Type 0) (ls : List AttributesOf) (element : List ℕ) (list : Definitions) → AllByRecursion P ls → P (element, list) → AllByRecursion P (with_list ls element list)
all_listed P [] element list all h = (h, tt)
all_listed P (l ∷ ls) element list all h =
    let Q : Bool → Type 0 = λ b. AllByRecursion P (cond b ((l.0, list) ∷ ls) (l ∷ with_list ls element list)) in
    let R : List ℕ → Type 0 = λ name. P (name, list) in
    on_test Q (bytes_eq element l.0)
    (λ t. (subst R (bytes_same element l.0 t) h, all.1))
    (λ t. (all.0, all_listed P ls element list all.1 h))

-- ---- follows

pub follows_are : (content : Content) (n : ℕ) → judged content ≡ Ok n → follows_of content ≡ n
follows_are content n is = rw is refl

pub follows_pushed : (es : List Element) (name : List ℕ) (content : Content) (n : ℕ) → judged content ≡ Ok n → follows_in (es ++ (name, content) ∷ []) ≡ follows_in es + n
follows_pushed es name content n is =
    sum_by_push (λ e. follows_of e.1) es (name, content) ∙ ap (λ m. follows_in es + m) (follows_are content n is)

-- ---- the set

pub kept_element : (set : Declarations) (name : List ℕ) (content : Content) (n : ℕ) → IsKept set → IsElement (name, content) → content_in set name ≡ None → length set.elements < 1024 → judged content ≡ Ok n → follows_in set.elements + n ≤ 16000000 → IsKept (record set { elements = set.elements ++ (name, content) ∷ [] })
kept_element set name content n kept is new few judged_is within = record {
  elements_apart = apart_pushed set.elements (name, content) kept.elements_apart new;
  lists_apart = kept.lists_apart;
  entities_apart = kept.entities_apart;
  notations_apart = kept.notations_apart;
  elements_are = all_pushed IsElement set.elements (name, content) kept.elements_are is;
  lists_are = kept.lists_are;
  entities_are = kept.entities_are;
  notations_are = kept.notations_are;
  few = omega (arith, length_pushed set.elements (name, content));
  follows = omega (arith, follows_pushed set.elements name content n judged_is);
}

pub kept_list : (set : Declarations) (element : List ℕ) (list : Definitions) → IsKept set → IsList (element, list) → IsKept (record set { lists = with_list set.lists element list })
kept_list set element list kept is = record {
  elements_apart = kept.elements_apart;
  lists_apart = apart_listed set.lists element list kept.lists_apart;
  entities_apart = kept.entities_apart;
  notations_apart = kept.notations_apart;
  elements_are = kept.elements_are;
  lists_are = all_listed IsList set.lists element list kept.lists_are is;
  entities_are = kept.entities_are;
  notations_are = kept.notations_are;
  few = kept.few;
  follows = kept.follows;
}

pub kept_entity : (set : Declarations) (name : List ℕ) (def : EntityDef) → IsKept set → is_name name ≡ true → is_entity def ≡ true → entity_in set name ≡ None → IsKept (record set { entities = set.entities ++ (name, def) ∷ [] })
kept_entity set name def kept named is new = record {
  elements_apart = kept.elements_apart;
  lists_apart = kept.lists_apart;
  entities_apart = apart_pushed set.entities (name, def) kept.entities_apart new;
  notations_apart = kept.notations_apart;
  elements_are = kept.elements_are;
  lists_are = kept.lists_are;
  entities_are = tests_pushed is_entity_kept set.entities (name, def) kept.entities_are (and_from (is_name name) (is_entity def) named is);
  notations_are = kept.notations_are;
  few = kept.few;
  follows = kept.follows;
}

pub kept_notation : (set : Declarations) (name : List ℕ) (ids : Ids) → IsKept set → is_name name ≡ true → are_ids ids ≡ true → notation_in set name ≡ None → IsKept (record set { notations = set.notations ++ (name, ids) ∷ [] })
kept_notation set name ids kept named is new = record {
  elements_apart = kept.elements_apart;
  lists_apart = kept.lists_apart;
  entities_apart = kept.entities_apart;
  notations_apart = apart_pushed set.notations (name, ids) kept.notations_apart new;
  elements_are = kept.elements_are;
  lists_are = kept.lists_are;
  entities_are = kept.entities_are;
  notations_are = tests_pushed is_notation_kept set.notations (name, ids) kept.notations_are (and_from (is_name name) (are_ids ids) named is);
  few = kept.few;
  follows = kept.follows;
}
