-- An element is sought by its name, place after place.
use Rattle.std.proofs.Common.{◌≡◌, ◌+◌, ℕ, true, false, cond, List, Option, Some, None, refl, sym, ap, ◌∙◌, drop, slice_get, bytes_eq}
use Rattle.std.specs.Prelude.{option_map, is_some, IsTrue}
use Rattle.std.specs.Map.{lookup}
use Rattle.attribute_types.proofs.TextTests.{bytes_same}
use Rattle.attlist_merge.proofs.Turns.{drop_step}
use Rattle.content_models.specs.declared.content.Content.{Content}
use Rattle.decl_set.specs.Declarations.{Element, name_of}

-- by the name of a place
lookup_on : (es : List Element) (word name : List ℕ) (k : ℕ) → Some name ≡ option_map name_of (slice_get es k)
    → (a : Content) × (lookup (bytes_eq word) (drop k es) ≡ cond (bytes_eq word name) (Some a) (lookup (bytes_eq word) (drop (k + 1) es)))
lookup_on es word name k at = by (slice_get es k) refl at
  where
    by : (o : Option Element) → slice_get es k ≡ o → Some name ≡ option_map name_of o
        → (a : Content) × (lookup (bytes_eq word) (drop k es) ≡ cond (bytes_eq word name) (Some a) (lookup (bytes_eq word) (drop (k + 1) es)))
    by None h at = cc
    by (Some e) h at =
        let same : name ≡ e.0 = cc in
        (e.1, ap (lookup (bytes_eq word)) (drop_step es k e h) ∙ ap (λ n. cond (bytes_eq word n) (Some e.1) (lookup (bytes_eq word) (drop (k + 1) es))) (sym same))

pub found_here : (es : List Element) (word name : List ℕ) (k : ℕ) (o : Option Content) → Some name ≡ option_map name_of (slice_get es k) → bytes_eq word name ≡ true
    → lookup (bytes_eq word) (drop k es) ≡ o → (name ≡ word) × IsTrue (is_some o)
found_here es word name k o at same kept =
    let t = lookup_on es word name k at in
    (sym (bytes_same word name same), ap is_some (sym kept ∙ (t.1 ∙ ap (λ b. cond b (Some t.0) (lookup (bytes_eq word) (drop (k + 1) es))) same)))

pub passed_here : (es : List Element) (word name : List ℕ) (k : ℕ) (o : Option Content) → Some name ≡ option_map name_of (slice_get es k) → bytes_eq word name ≡ false
    → lookup (bytes_eq word) (drop k es) ≡ o → lookup (bytes_eq word) (drop (k + 1) es) ≡ o
passed_here es word name k o at other kept =
    let t = lookup_on es word name k at in
    sym (t.1 ∙ ap (λ b. cond b (Some t.0) (lookup (bytes_eq word) (drop (k + 1) es))) other) ∙ kept
