-- The first attributes of a list keep what the list keeps.
use Rattle.std.proofs.Common.{◌≡◌, ℕ, zero, suc, Bool, true, false, cond, not, ◌||◌, ◌&&◌, List, [], ◌∷◌, take, refl, ap, Some, is_none, bytes_eq}
use Rattle.std.specs.List.{list_any, AllByRecursion}
use Rattle.std.proofs.lemmas.Bool.{and_parts, and_from}
use Rattle.attribute_types.proofs.TextTests.{on_test}
use Rattle.attlist_merge.specs.Lists.{Entry, Definitions, definition_of, is_id_entry, is_notation_entry, IsSound, IsKept, are_distinct, at_most_one}

all_taken : {X : Type 0} (P : X → Type 0) (n : ℕ) (xs : List X) → AllByRecursion P xs → AllByRecursion P (take n xs)
all_taken P zero xs all = tt
all_taken P (suc n) [] all = tt
all_taken P (suc n) (x ∷ xs) all = (all.0, all_taken P n xs all.1)

none_taken : (n : ℕ) (es : Definitions) (name : List ℕ) → is_none (definition_of es name) ≡ true → is_none (definition_of (take n es) name) ≡ true
none_taken zero es name h = refl
none_taken (suc n) [] name h = refl
none_taken (suc n) (e ∷ es) name h =
    let Q : Bool → Type 0 = λ b. is_none (cond b (Some e.1) (definition_of es name)) ≡ true → is_none (cond b (Some e.1) (definition_of (take n es) name)) ≡ true in
    on_test Q (bytes_eq name e.0) (λ t h. h) (λ t h. none_taken n es name h) h

distinct_taken : (n : ℕ) (es : Definitions) → are_distinct es ≡ true → are_distinct (take n es) ≡ true
distinct_taken zero es h = refl
distinct_taken (suc n) [] h = refl
distinct_taken (suc n) (e ∷ es) h =
    let parts = and_parts (is_none (definition_of es e.0)) (are_distinct es) h in
    and_from (is_none (definition_of (take n es) e.0)) (are_distinct (take n es)) (none_taken n es e.0 parts.0) (distinct_taken n es parts.1)

any_taken : (p : Entry → Bool) (n : ℕ) (es : Definitions) → list_any p es ≡ false → list_any p (take n es) ≡ false
any_taken p zero es h = refl
any_taken p (suc n) [] h = refl
any_taken p (suc n) (e ∷ es) h =
    let Q : Bool → Type 0 = λ b. (b || list_any p es) ≡ false → (b || list_any p (take n es)) ≡ false in
    on_test Q (p e) (λ t h. h) (λ t h. any_taken p n es h) h

one_taken : (p : Entry → Bool) (n : ℕ) (es : Definitions) → at_most_one p es ≡ true → at_most_one p (take n es) ≡ true
one_taken p zero es h = refl
one_taken p (suc n) [] h = refl
one_taken p (suc n) (e ∷ es) h =
    let parts = and_parts (not (p e && list_any p es)) (at_most_one p es) h in
    let Q : Bool → Type 0 = λ b. not (b && list_any p es) ≡ true → not (b && list_any p (take n es)) ≡ true in
    let R : Bool → Type 0 = λ b. list_any p es ≡ b → not b ≡ true → not (list_any p (take n es)) ≡ true in
    and_from (not (p e && list_any p (take n es))) (at_most_one p (take n es))
    (on_test Q (p e) (λ t h. on_test R (list_any p es) (λ u v w. cc) (λ u v w. ap not (any_taken p n es v)) refl h) (λ t h. refl) parts.0)
    (one_taken p n es parts.1)

pub kept_taken : (n : ℕ) (list : Definitions) → IsKept list → IsKept (take n list)
kept_taken n list kept = record {
  names = distinct_taken n list kept.names;
  definitions = all_taken IsSound n list kept.definitions;
  ids = one_taken is_id_entry n list kept.ids;
  notations = one_taken is_notation_entry n list kept.notations;
}
