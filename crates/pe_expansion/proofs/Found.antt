-- Names that are found.
use Rattle.std.proofs.Common.{◌≡◌, ◌∙◌, ℕ, List, [], ◌∷◌, Bool, true, false, cond, Option, Some, None, IfSome, option_map, unwrap_or, refl, sym, ap, bytes_eq, ◌+◌, not, position, length, map, slice_get}
use Rattle.std.specs.Map.{keys_of, lookup, lookup_key, set_value}
use Rattle.std.specs.List.{prefix_len}
use Rattle.std.proofs.lemmas.Map.Entries.{length-keys_of}
use Rattle.std.proofs.lemmas.Map.Made.{lookup_key_same}
use Rattle.std.proofs.lemmas.Slice.Eq.{bytes_eq-Decides}
use Rattle.pe_expansion.specs.declared.bindings.PeText.{PeText}
use Rattle.pe_expansion.specs.Bound.{Bound, IsPlaceOf, text_bound, given_text, with_outer}
use Rattle.std.specs.Option.{is_some}
use Rattle.std.proofs.lemmas.Option.{slice_get-map}

-- the name that is found is the name that was sought
pub found_name : {X A : Type 0} (f : A → List ℕ) (name : List ℕ) (es : List (List ℕ × X)) (o : Option A) → option_map f o ≡ lookup_key (bytes_eq name) es → IfSome o (λ a. f a ≡ name)
found_name f name es None is = tt
found_name f name es (Some a) is = sym (lookup_key_same bytes_eq-Decides name es (f a) (sym is))

-- a text written where the name is found
pub written_outer : (bound : Bound) (name text : List ℕ) (v : PeText) → text_bound bound name ≡ Some v → set_value (bytes_eq name) bound (given_text text v) ≡ with_outer bound name text
written_outer [] name text v is = refl
written_outer (b ∷ bs) name text v is = by (bytes_eq name b.0) is (written_outer bs name text v)
  where
    by : (same : Bool) → cond same (Some b.1) (lookup (bytes_eq name) bs) ≡ Some v → (text_bound bs name ≡ Some v → set_value (bytes_eq name) bs (given_text text v) ≡ with_outer bs name text)
        → cond same ((b.0, given_text text v) ∷ bs) (b ∷ set_value (bytes_eq name) bs (given_text text v)) ≡ cond same ((b.0, given_text text b.1) ∷ bs) (b ∷ with_outer bs name text)
    by true here later = let same : b.1 ≡ v = ap (λ o. unwrap_or o v) here in rw same refl
    by false there later = ap (λ rest. b ∷ rest) (later there)

prefix_keys : {X : Type 0} (test : List ℕ → Bool) (es : List (List ℕ × X)) → prefix_len test (keys_of es) ≡ prefix_len (λ (e : List ℕ × X). test e.0) es
prefix_keys test [] = refl
prefix_keys test (e ∷ es) = ap (λ n. cond (test e.0) (1 + n) 0) (prefix_keys test es)

-- the place of a name among the keys
pub position_keys : {X : Type 0} (test : List ℕ → Bool) (es : List (List ℕ × X)) → position test (keys_of es) ≡ position (λ (e : List ℕ × X). test e.0) es
position_keys test es = rw (prefix_keys (λ k. not (test k)) es, length-keys_of es) refl

no_text : (o : Option PeText) → false ≡ is_some o → o ≡ None
no_text None is = refl
no_text (Some entity) is = absurd cc

some_text : (o : Option PeText) → true ≡ is_some o → (entity : PeText) × (o ≡ Some entity)
some_text None is = absurd cc
some_text (Some entity) is = (entity, refl)

-- what is bound at the place of a name
pub place_found : (bound : Bound) (name : List ℕ) (o : Option ℕ) → is_some o ≡ is_some (text_bound bound name) → IfSome o (λ k. slice_get (map (λ (e : List ℕ × PeText). e.1) bound) k ≡ text_bound bound name) → IsPlaceOf bound name o
place_found bound name None found at = no_text (text_bound bound name) found
place_found bound name (Some k) found at =
    let there = some_text (text_bound bound name) found in
    (there.0, there.1, sym (slice_get-map (λ (e : List ℕ × PeText). e.1) bound k) ∙ at ∙ there.1)
