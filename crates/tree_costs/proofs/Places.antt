-- Elements of a set by their places and by their names.
use Rattle.std.proofs.Common.{◌≡◌, ◌<◌, ◌+◌, ℕ, zero, suc, Bool, true, false, cond, not, ◌||◌, List, [], ◌∷◌, length, refl, sym, ap, ◌∙◌, subst, arith, Option, Some, None, slice_get, bytes_eq, true≢false}
use Rattle.std.specs.Prelude.{position, nat_lt}
use Rattle.std.specs.List.{list_any, position_or_len}
use Rattle.std.specs.Map.{lookup}
use Rattle.std.proofs.lemmas.Bool.{lt-ltb, ltb-true, and_parts, not-true}
use Rattle.content_models.specs.declared.content.Content.{Content}
use Rattle.content_models.specs.Model.{Chars}
use Rattle.attribute_types.proofs.TextTests.{on_test, bytes_same, bytes_own, bytes_swap}
use Rattle.decl_set.specs.Asked.{IsKept, are_apart}
use Rattle.decl_set.specs.Declarations.{Declarations, Element, content_in}
use Rattle.decl_set.proofs.Found.{found_at}
use Rattle.tree_costs.specs.Leasts.{place_of}

or_false : (a b : Bool) → (a || b) ≡ false → (a ≡ false) × (b ≡ false)
or_false true b h = cc
or_false false b h = (refl, h)

module _ {X : Type 0} where
  abbrev pub place : Chars → List (Chars × X) → ℕ
  place e es = position_or_len (λ (x : Chars × X). bytes_eq e x.0) es

  found_place : (es : List (Chars × X)) (e : Chars) (a : X) → lookup (bytes_eq e) es ≡ Some a
      → (place e es < length es) × (slice_get es (place e es) ≡ Some (e, a))
  found_place [] e a h = cc
  found_place (y ∷ es) e a h =
      let n = place e es in
      let P : Bool → Type 0 = λ b. bytes_eq e y.0 ≡ b → cond b (Some y.1) (lookup (bytes_eq e) es) ≡ Some a
      → (cond (not b) (1 + n) 0 < length (y ∷ es)) × (slice_get (y ∷ es) (cond (not b) (1 + n) 0) ≡ Some (e, a)) in
      on_test P (bytes_eq e y.0)
      (λ t q h.
      let same : y.1 ≡ a = cc in
      (omega arith, ap (λ z. Some (z, y.1)) (sym (bytes_same e y.0 q)) ∙ ap (λ z. Some (e, z)) same))
      (λ t q h.
      let r = found_place es e a h in
      let s : 1 + n ≡ suc n = omega arith in
      (omega (arith, r.0), ap (slice_get (y ∷ es)) s ∙ r.1))
      refl h

  no_place : (es : List (Chars × X)) (e : Chars) → lookup (bytes_eq e) es ≡ None → place e es ≡ length es
  no_place [] e h = refl
  no_place (y ∷ es) e h =
      let n = place e es in
      let P : Bool → Type 0 = λ b. cond b (Some y.1) (lookup (bytes_eq e) es) ≡ None → cond (not b) (1 + n) 0 ≡ length (y ∷ es) in
      on_test P (bytes_eq e y.0) (λ t h. cc) (λ t h. omega (arith, no_place es e h)) h

  fails_at : (p : Chars × X → Bool) (es : List (Chars × X)) (k : ℕ) (e : Chars × X) → list_any p es ≡ false → slice_get es k ≡ Some e → p e ≡ false
  fails_at p [] k e none at = cc
  fails_at p (x ∷ es) zero e none at = let same : x ≡ e = cc in ap p (sym same) ∙ (or_false (p x) (list_any p es) none).0
  fails_at p (x ∷ es) (suc k) e none at = fails_at p es k e (or_false (p x) (list_any p es) none).1 at

  own_place : (es : List (Chars × X)) (k : ℕ) (e : Chars × X) → are_apart es ≡ true → slice_get es k ≡ Some e → place e.0 es ≡ k
  own_place [] k e apart at = cc
  own_place (x ∷ es) zero e apart at =
      let same : x ≡ e = cc in
      subst (λ (y : Chars × X). place y.0 (x ∷ es) ≡ 0) same (ap (λ b. cond (not b) (1 + place x.0 es) 0) (bytes_own x.0))
  own_place (x ∷ es) (suc k) e apart at =
      let parts = and_parts (not (list_any (λ other. bytes_eq x.0 other.0) es)) (are_apart es) apart in
      let off = bytes_swap x.0 e.0 (fails_at (λ other. bytes_eq x.0 other.0) es k e (not-true _ parts.0) at) in
      let later = own_place es k e parts.1 at in
      ap (λ b. cond (not b) (1 + place e.0 es) 0) off ∙ omega (arith, later)

at_place : (n l : ℕ) → n < l → cond (nat_lt n l) (Some n) None ≡ Some n
at_place n l h = ap (λ b. cond b (Some n) None) (lt-ltb n l h)

at_end : (n l : ℕ) → n ≡ l → cond (nat_lt n l) (Some n) None ≡ None
at_end n l h =
    let P : Bool → Type 0 = λ b. nat_lt n l ≡ b → cond b (Some n) None ≡ None in
    on_test P (nat_lt n l) (λ t q. absurd (let lt : n < l = ltb-true n l q in omega arith)) (λ t q. refl) refl

module _ (set : Declarations) where
  -- a declared element stands at its place
  pub has_place : (e : Chars) (a : Content) → content_in set e ≡ Some a → (n : ℕ) × (place_of set e ≡ Some n) × (slice_get set.elements n ≡ Some (e, a))
  has_place e a h =
      let t = found_place set.elements e a h in
      (place e set.elements, at_place (place e set.elements) (length set.elements) t.0, t.1)

  -- what is not declared has no place
  pub has_none : (e : Chars) → content_in set e ≡ None → place_of set e ≡ None
  has_none e h = at_end (place e set.elements) (length set.elements) (no_place set.elements e h)

  -- an element that has a place is declared
  pub stands_at : (e : Chars) (n : ℕ) → place_of set e ≡ Some n → (a : Content) × (content_in set e ≡ Some a) × (slice_get set.elements n ≡ Some (e, a))
  stands_at e n h = by (content_in set e) refl
    where
      by : (o : Option Content) → content_in set e ≡ o → (a : Content) × (content_in set e ≡ Some a) × (slice_get set.elements n ≡ Some (e, a))
      by None q = absurd (let none = has_none e q in cc)
      by (Some a) q =
          let t = has_place e a q in
          let same : t.0 ≡ n = cc in
          (a, q, subst (λ (k : ℕ). slice_get set.elements k ≡ Some (e, a)) same t.2)

  -- the element at a place
  pub is_at : IsKept set → (n : ℕ) (x : Element) → slice_get set.elements n ≡ Some x → (content_in set x.0 ≡ Some x.1) × (place_of set x.0 ≡ Some n)
  is_at k n x h =
      let found = found_at set.elements n x k.elements_apart h in
      let t = found_place set.elements x.0 x.1 found in
      let own = own_place set.elements n x k.elements_apart h in
      (found, at_place (place x.0 set.elements) (length set.elements) t.0 ∙ ap Some own)
