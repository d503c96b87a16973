-- The parameter entities that are bound, as a list.
use Rattle.std.specs.Prelude.{◌≡◌, ℕ, List, [], ◌∷◌, bytes_eq, Option, Some, None, option_map, option_and_then, slice_get, if◌then◌else◌}
use Rattle.std.specs.Map.{lookup}
use Rattle.pe_expansion.specs.declared.bindings.PeText.{PeText}
use Rattle.pe_expansion.specs.declared.bindings.PeText.TheVariants.{Inner, Outer}

-- names with what they are bound to, in order of binding
abbrev pub Bound : Type 0
Bound = List (List ℕ × PeText)

abbrev pub none_bound : Bound
none_bound = []

-- what a name is bound to
abbrev pub text_bound : Bound → List ℕ → Option PeText
text_bound bound name = lookup (bytes_eq name) bound

-- bound to an outer text
abbrev pub IsOuter : Option PeText → Type 0
IsOuter (Some (Outer ids base text)) = Unit {0}
IsOuter (Some (Inner text)) = ⊥
IsOuter None = ⊥

-- the text, where it is inner or loaded
abbrev pub text_in : PeText → Option (List ℕ)
text_in (Inner text) = Some text
text_in (Outer ids base text) = text

-- an outer entity with this text
abbrev pub given_text : List ℕ → PeText → PeText
given_text text (Inner inner) = Inner inner
given_text text (Outer ids base old) = Outer ids base (Some text)

-- the same, with this text as the outer text of a name
abbrev pub with_outer : Bound → List ℕ → List ℕ → Bound
with_outer [] name text = []
with_outer (b ∷ bs) name text = if bytes_eq name b.0 then (b.0, given_text text b.1) ∷ bs else b ∷ with_outer bs name text

-- the place of a name: what is bound there is what the name is bound to; there is none where it is not bound
abbrev pub IsPlaceOf : Bound → List ℕ → Option ℕ → Type 0
IsPlaceOf bound name None = text_bound bound name ≡ None
IsPlaceOf bound name (Some k) = (entity : PeText) × (text_bound bound name ≡ Some entity) × (option_map (λ e. e.1) (slice_get bound k) ≡ Some entity)

-- the text of a name, where it has one
abbrev pub text_named : Bound → List ℕ → Option (List ℕ)
text_named bound name = option_and_then text_in (text_bound bound name)

-- the name and the text of the k-th entity, where it has a text
abbrev pub loaded_at : Bound → ℕ → Option (List ℕ × List ℕ)
loaded_at bound k = option_and_then (λ e. option_map (λ t. (e.0, t)) (text_in e.1)) (slice_get bound k)

-- What binding and loading never take back: a name that has a text keeps it, and so does a place.
pub record Keeps (old new : Bound) : Type 0 where
  pub names : (name text : List ℕ) → text_named old name ≡ Some text → text_named new name ≡ Some text
  pub places : (k : ℕ) (name text : List ℕ) → loaded_at old k ≡ Some (name, text) → loaded_at new k ≡ Some (name, text)
