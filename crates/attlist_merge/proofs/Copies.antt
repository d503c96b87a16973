-- A list that is copied from its front on.
use Rattle.std.proofs.Common.{◌≡◌, ◌∙◌, ℕ, zero, suc, ◌+◌, true, false, cond, List, [], ◌∷◌, ◌++◌, take, refl, ap, subst, Some, None, slice_get, bytes_eq, is_none, sym}
use Rattle.std.specs.Prelude.{Option, Result, Ok, Err, OnOk}
use Rattle.jats_chars.specs.declared.NoMemory.{NoMemory}
use Rattle.std.proofs.lemmas.Bool.{and_parts}
use Rattle.attribute_types.proofs.TextTests.{bytes_swap}
use Rattle.attlist_merge.specs.Lists.{Entry, Definitions, definition_of, are_distinct}
use Rattle.attlist_merge.proofs.Kept.{apart_first}
use Rattle.attlist_merge.proofs.Turns.{one_more}

none_is : {X : Type 0} (o : Option X) → is_none o ≡ true → o ≡ None
none_is None h = refl
none_is (Some x) h = cc

take_suc : (list : Definitions) (i : ℕ) (e : Entry) → slice_get list i ≡ Some e → take (suc i) list ≡ take i list ++ e ∷ []
take_suc [] i e at = cc
take_suc (x ∷ xs) zero e at = cc
take_suc (x ∷ xs) (suc i) e at = ap (λ (l : Definitions). x ∷ l) (take_suc xs i e at)

-- the front with one more
pub take_more : (list : Definitions) (i : ℕ) (e : Entry) → slice_get list i ≡ Some e → take (i + 1) list ≡ take i list ++ e ∷ []
take_more list i e at = ap (λ k. take k list) (one_more i) ∙ take_suc list i e at

-- a name that is not in a list differs from that at each place
apart_at : (list : Definitions) (i : ℕ) (e : Entry) (name : List ℕ) → definition_of list name ≡ None → slice_get list i ≡ Some e → bytes_eq name e.0 ≡ false
apart_at [] i e name none at = cc
apart_at (x ∷ xs) zero e name none at =
    let same : x ≡ e = cc in
    let P : Entry → Type 0 = λ y. bytes_eq name y.0 ≡ false in
    subst P same (apart_first x xs name none).0
apart_at (x ∷ xs) (suc i) e name none at = apart_at xs i e name (apart_first x xs name none).1 at

-- the name at a place is none of those before it
pub new_at : (list : Definitions) (i : ℕ) (e : Entry) → are_distinct list ≡ true → slice_get list i ≡ Some e → definition_of (take i list) e.0 ≡ None
new_at [] i e apart at = cc
new_at (x ∷ xs) zero e apart at = refl
new_at (x ∷ xs) (suc i) e apart at =
    let parts = and_parts (is_none (definition_of xs x.0)) (are_distinct xs) apart in
    let off = bytes_swap x.0 e.0 (apart_at xs i e x.0 (none_is (definition_of xs x.0) parts.0) at) in
    ap (λ b. cond b (Some x.1) (definition_of (take i xs) e.0)) off ∙ new_at xs i e parts.1 at

-- past the end nothing changes
take_past_suc : (list : Definitions) (i : ℕ) → slice_get list i ≡ None → take i list ≡ take (suc i) list
take_past_suc [] zero at = refl
take_past_suc [] (suc i) at = refl
take_past_suc (x ∷ xs) zero at = cc
take_past_suc (x ∷ xs) (suc i) at = ap (λ (l : Definitions). x ∷ l) (take_past_suc xs i at)

pub take_past : (list : Definitions) (i : ℕ) → slice_get list i ≡ None → take i list ≡ take (i + 1) list
take_past list i at = take_past_suc list i at ∙ ap (λ k. take k list) (sym (one_more i))

-- ---- a copy of the entry at a place

pub new_copy : (list front : Definitions) (i : ℕ) (e : Entry) (name : List ℕ) → are_distinct list ≡ true → front ≡ take i list → slice_get list i ≡ Some e → name ≡ e.0 → definition_of front name ≡ None
new_copy list front i e name apart is at same = ap (λ (l : Definitions). definition_of l name) is ∙ (ap (λ n. definition_of (take i list) n) same ∙ new_at list i e apart at)

pub copied : (list front new : Definitions) (i : ℕ) (e f : Entry) (r : Result (Unit {0}) NoMemory) → front ≡ take i list → slice_get list i ≡ Some e → f.0 ≡ e.0 → f.1 ≡ e.1 → OnOk r (new ≡ front ++ f ∷ []) → OnOk r (new ≡ take (i + 1) list)
copied list front new i e f (Err x) is at name definition put = tt
copied list front new i e f (Ok u) is at name definition put =
    let same : f ≡ e = λ z. (name z, definition z) in
    put ∙ (ap (λ (l : Definitions). l ++ f ∷ []) is ∙ (ap (λ g. take i list ++ g ∷ []) same ∙ sym (take_more list i e at)))
