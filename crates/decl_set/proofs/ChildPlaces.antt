-- The elements that contents name, by their places.
use Rattle.std.proofs.Common.{◌≡◌, ◌∙◌, ◌<◌, ◌+◌, ◌==◌, ℕ, inl, inr, zero, suc, Bool, true, false, cond, not, nat_lt, List, [], ◌∷◌, length, map, position, slice_get, take, ◌++◌, refl, sym, ap, subst, arith, Option, Some, None, bytes_eq, IfSome}
use Rattle.std.specs.Prelude.{option_map, option_and_then, option_to_list}
use Rattle.std.specs.List.{prefix_len, list_any}
use Rattle.std.proofs.Math.Seq.{take-nil}
use Rattle.std.proofs.lemmas.Bool.{and_parts, not-true, lt-ltb, eq-eqb, eqb-true, cases_lt}
use Rattle.std.proofs.lemmas.Option.{slice_get-map, slice_get_within, slice_get_past}
use Rattle.attribute_types.proofs.TextTests.{on_test, bytes_own, bytes_swap}
use Rattle.content_models.specs.declared.content.Content.{Content}
use Rattle.content_models.specs.Model.{Chars}
use Rattle.position_automata.specs.Stepping.{named}
use Rattle.position_automata.specs.Tables.{step_names}
use Rattle.decl_set.specs.Asked.{are_apart}
use Rattle.decl_set.specs.Children.{place_in, child_step, children_of, AreChildren}
use Rattle.decl_set.specs.Declarations.{Declarations, Element}
use Rattle.decl_set.specs.Steps.{any_step}
use Rattle.decl_set.proofs.Found.{fails_at}

-- no places are right
pub none_are : (elements : List Element) → AreChildren elements []
none_are elements e within = absurd (omega arith)

pub none_are_in : (elements : List Element) (all : List (List (Option ℕ))) → all ≡ [] → AreChildren elements all
none_are_in elements all none = subst (AreChildren elements) (sym none) (none_are elements)

-- the list of what is made of the first items grows by the next one
pub mapped_more : {X Y : Type 0} (f : X → Y) (xs : List X) (k : ℕ) → map f (take k xs) ++ option_to_list (option_map f (slice_get xs k)) ≡ map f (take (k + 1) xs)
mapped_more f [] k = ap (λ t. map f t ++ []) (take-nil k) ∙ ap (map f) (sym (take-nil (k + 1)))
mapped_more f (x ∷ xs) zero = refl
mapped_more f (x ∷ xs) (suc k) = ap (λ t. f x ∷ t) (mapped_more f xs k) ∙ ap (λ n. map f (take n (x ∷ xs))) (next k)
  where
    next : (k : ℕ) → suc (k + 1) ≡ suc k + 1
    next k = omega arith

none_within : {X : Type 0} (xs : List X) (k : ℕ) → k < length xs → slice_get xs k ≡ None → ⊥
none_within [] k within none = absurd (omega arith)
none_within (x ∷ xs) zero within none = cc
none_within (x ∷ xs) (suc k) within none = none_within xs k (omega arith) none

-- ---- the place of what stands at a place

module _ {X : Type 0} where
  prefix_at : (es : List (List ℕ × X)) (k : ℕ) (e : List ℕ × X) → are_apart es ≡ true → slice_get es k ≡ Some e → prefix_len (λ d. not (bytes_eq e.0 d.0)) es ≡ k
  prefix_at [] k e apart at = cc
  prefix_at (x ∷ es) zero e apart at =
      let same : x ≡ e = cc in
      let P : List ℕ × X → Type 0 = λ y. prefix_len (λ d. not (bytes_eq y.0 d.0)) (x ∷ es) ≡ 0 in
      subst P same (ap (λ b. cond (not b) (1 + prefix_len (λ d. not (bytes_eq x.0 d.0)) es) 0) (bytes_own x.0))
  prefix_at (x ∷ es) (suc k) e apart at =
      let parts = and_parts (not (list_any (λ other. bytes_eq x.0 other.0) es)) (are_apart es) apart in
      let off = bytes_swap x.0 e.0 (fails_at (λ other. bytes_eq x.0 other.0) es k e (not-true _ parts.0) at) in
      let before = prefix_at es k e parts.1 at in
      ap (λ b. cond (not b) (1 + prefix_len (λ d. not (bytes_eq e.0 d.0)) es) 0) off ∙ omega (arith, before)

-- what stands at a place has this place
pub place_at : (elements : List Element) (k : ℕ) (e : Element) → are_apart elements ≡ true → slice_get elements k ≡ Some e → place_in elements e.0 ≡ Some k
place_at elements k e apart at =
    ap (λ n. cond (nat_lt n (length elements)) (Some n) None) (prefix_at elements k e apart at)
    ∙ ap (λ b. cond b (Some k) None) (lt-ltb k (length elements) (slice_get_within elements k e at))

-- the step at ANY to an element that is there
pub any_child : (set : Declarations) (k : ℕ) → are_apart set.elements ≡ true → k < length set.elements → Some (Some k, 0) ≡ option_map {U = Option ℕ × ℕ} (child_step set) (option_map (λ e. (e.0, 0)) (slice_get set.elements k))
any_child set k apart within = by (slice_get set.elements k) refl
  where
    by : (o : Option Element) → slice_get set.elements k ≡ o → Some (Some k, 0) ≡ option_map {U = Option ℕ × ℕ} (child_step set) (option_map (λ e. (e.0, 0)) o)
    by None at = absurd (none_within set.elements k within at)
    by (Some e) at = ap (λ p. Some (p, 0)) (sym (place_at set.elements k e apart at))

-- ---- the place that a table tells

flat_place : (place : Chars → Option ℕ) (o : Option Chars) → option_and_then (λ p. p) (option_map place o) ≡ option_and_then place o
flat_place place None = refl
flat_place place (Some name) = refl

content_at : (elements : List Element) (o : Option Element) (content : Content) → option_map (λ d. d.1) o ≡ Some content → option_map (λ d. children_of elements d.1) o ≡ Some (children_of elements content)
content_at elements None content is = cc
content_at elements (Some d) content is = let same : d.1 ≡ content = cc in ap (λ a. Some (children_of elements a)) same

pub table_place : (elements : List Element) (all : List (List (Option ℕ))) (e at : ℕ) (content : Content) (told : List (Option ℕ)) → AreChildren elements all → slice_get all e ≡ Some told
    → option_map (λ d. d.1) (slice_get elements e) ≡ Some content → option_and_then (λ p. p) (slice_get told at) ≡ option_and_then (place_in elements) (slice_get (step_names content) at)
table_place elements all e at content told are there is =
    let same : told ≡ children_of elements content =
    (let h = sym there ∙ are e (slice_get_within all e told there) ∙ content_at elements (slice_get elements e) content is in cc) in
    ap (λ places. option_and_then (λ p. p) (slice_get places at)) same
    ∙ ap (option_and_then (λ p. p)) (slice_get-map (place_in elements) (step_names content) at)
    ∙ flat_place (place_in elements) (slice_get (step_names content) at)

-- a step with the place of its element
pub placed_child : (set : Declarations) (names : List Chars) (at next : ℕ) (place : Option ℕ) → at < length names → place ≡ option_and_then (place_in set.elements) (slice_get names at)
    → Some (place, next) ≡ option_map {U = Option ℕ × ℕ} (child_step set) (named names (Some (at, next)))
placed_child set names at next place within is = by (slice_get names at) refl
  where
    by : (o : Option Chars) → slice_get names at ≡ o → Some (place, next) ≡ option_map {U = Option ℕ × ℕ} (child_step set) (option_map {U = Chars × ℕ} (λ name. (name, next)) o)
    by None none = absurd (none_within names at within none)
    by (Some name) there = ap (λ p. Some (p, next)) (is ∙ ap (option_and_then (place_in set.elements)) there)

-- no step at ANY from another state, or past the last element
pub any_none : (set : Declarations) (state k : ℕ) → ((state ≡ 0) × (k < length set.elements) → ⊥) → None ≡ option_map {U = Option ℕ × ℕ} (child_step set) (any_step set state k)
any_none set state k not_there = by (state == 0) refl
  where
    by : (b : Bool) → (state == 0) ≡ b → None ≡ option_map {U = Option ℕ × ℕ} (child_step set) (cond b (option_map {U = Chars × ℕ} (λ e. (e.0, 0)) (slice_get set.elements k)) None)
    by false is = refl
    by true is = ap (λ o. option_map {U = Option ℕ × ℕ} (child_step set) (option_map {U = Chars × ℕ} (λ e. (e.0, 0)) o)) (sym (slice_get_past set.elements k (elim (cases_lt k (length set.elements)) [ inl within ↦ absurd (not_there (eqb-true state 0 is, within)) | inr past ↦ past ])))

-- the step at ANY from state 0
pub any_there : (set : Declarations) (state k : ℕ) → are_apart set.elements ≡ true → state ≡ 0 → k < length set.elements → Some (Some k, 0) ≡ option_map {U = Option ℕ × ℕ} (child_step set) (any_step set state k)
any_there set state k apart start within =
    any_child set k apart within
    ∙ ap (λ b. option_map {U = Option ℕ × ℕ} (child_step set) (cond b (option_map {U = Chars × ℕ} (λ e. (e.0, 0)) (slice_get set.elements k)) None)) (sym (eq-eqb state 0 start))
