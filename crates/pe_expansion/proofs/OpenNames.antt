-- The names that are open.
use Rattle.std.proofs.Common.{◌≡◌, ◌∙◌, ℕ, ◌+◌, List, [], ◌∷◌, length, map, refl, ap, ◌||◌, length-append}
use Rattle.std.proofs.lemmas.List.{length-map}
use Rattle.std.proofs.lemmas.List.Folds.{list_any-append}
use Rattle.std.specs.Prelude.{bytes_eq}
use Rattle.std.specs.List.{list_any}
use Rattle.pe_expansion.specs.Frames.{open_names}
use Rattle.pe_expansion.specs.Opening.{is_open}
use Rattle.pe_expansion.specs.declared.stack.Frame.{Frame}

any_names : (frames : List Frame) (name : List ℕ) → list_any (λ n. bytes_eq n name) (map (λ (f : Frame). f.name.now) frames) ≡ list_any (λ (f : Frame). bytes_eq f.name.now name) frames
any_names [] name = refl
any_names (f ∷ fs) name = ap (λ b. bytes_eq f.name.now name || b) (any_names fs name)

pub open_names_has : (chain : List (List ℕ)) (frames : List Frame) (name : List ℕ) → is_open (open_names chain frames) name ≡ (is_open chain name || list_any (λ (f : Frame). bytes_eq f.name.now name) frames)
open_names_has chain frames name = list_any-append (λ n. bytes_eq n name) chain (map (λ (f : Frame). f.name.now) frames) ∙ ap (λ b. is_open chain name || b) (any_names frames name)

pub open_names_length : (chain : List (List ℕ)) (frames : List Frame) → length (open_names chain frames) ≡ length chain + length frames
open_names_length chain frames = simp (length-append, length-map)
