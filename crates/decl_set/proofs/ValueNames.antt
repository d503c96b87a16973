-- Names that are found, and names that are open.
use Rattle.std.proofs.Common.{◌≡◌, ◌∙◌, ℕ, ◌+◌, List, [], ◌∷◌, length, map, Option, Some, None, IfSome, option_map, refl, sym, ap, ◌||◌, bytes_eq, length-append}
use Rattle.std.specs.List.{list_any}
use Rattle.std.specs.Map.{lookup_key}
use Rattle.std.proofs.lemmas.List.{length-map}
use Rattle.std.proofs.lemmas.List.Folds.{list_any-append}
use Rattle.std.proofs.lemmas.Map.Made.{lookup_key_same}
use Rattle.std.proofs.lemmas.Slice.Eq.{bytes_eq-Decides}
use Rattle.pe_expansion.specs.Opening.{is_open}
use Rattle.decl_set.specs.ValueFrames.{open_names}
use Rattle.decl_set.specs.declared.value_stack.Frame.{Frame}

-- the name that is found is the name that was sought
pub found_name : {X A : Type 0} (f : A → List ℕ) (name : List ℕ) (es : List (List ℕ × X)) (o : Option A) → option_map f o ≡ lookup_key (bytes_eq name) es → IfSome o (λ a. f a ≡ name)
found_name f name es None is = tt
found_name f name es (Some a) is = sym (lookup_key_same bytes_eq-Decides name es (f a) (sym is))

any_names : (frames : List Frame) (name : List ℕ) → list_any (λ n. bytes_eq n name) (map (λ (f : Frame). f.name.now) frames) ≡ list_any (λ (f : Frame). bytes_eq f.name.now name) frames
any_names [] name = refl
any_names (f ∷ fs) name = ap (λ b. bytes_eq f.name.now name || b) (any_names fs name)

pub open_names_has : (chain : List (List ℕ)) (frames : List Frame) (name : List ℕ) → is_open (open_names chain frames) name ≡ (is_open chain name || list_any (λ (f : Frame). bytes_eq f.name.now name) frames)
open_names_has chain frames name = list_any-append (λ n. bytes_eq n name) chain (map (λ (f : Frame). f.name.now) frames) ∙ ap (λ b. is_open chain name || b) (any_names frames name)

pub open_names_length : (chain : List (List ℕ)) (frames : List Frame) → length (open_names chain frames) ≡ length chain + length frames
open_names_length chain frames = simp (length-append, length-map)
