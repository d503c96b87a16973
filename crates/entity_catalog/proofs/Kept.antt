-- Parts that are kept, a part at a time.
use Rattle.std.proofs.Common.{◌≡◌, ◌∙◌, List, [], ◌∷◌, ◌++◌, ℕ, Some, None, fold, refl, ap, sym}
use Rattle.std.specs.Prelude.{Option}
use Rattle.std.specs.Option.{option_and_then}
use Rattle.entity_catalog.specs.Join.{Parts, with_part, kept_of}
use Rattle.entity_catalog.proofs.Yielded.{StandsAt}

abbrev pub keeping : Option Parts → List ℕ → Option Parts
keeping kept part = option_and_then (λ before. with_part before part) kept

fold-append : (o : Option Parts) (xs ys : Parts) → fold keeping o (xs ++ ys) ≡ fold keeping (fold keeping o xs) ys
fold-append o [] ys = refl
fold-append o (x ∷ xs) ys = fold-append (keeping o x) xs ys

pub fold-none : (xs : Parts) → fold keeping None xs ≡ None
fold-none [] = refl
fold-none (x ∷ xs) = fold-none xs

-- one part more
pub kept_of-push : (before : Parts) (x : List ℕ) (kept : Parts) → kept_of before ≡ Some kept → kept_of (before ++ x ∷ []) ≡ with_part kept x
kept_of-push before x kept is = fold-append (Some []) before (x ∷ []) ∙ ap (λ o. keeping o x) is

-- where a part stops, no later part mends it
pub kept_of-stopped : {all before : Parts} {x : List ℕ} {kept : Parts} → StandsAt all before x → kept_of before ≡ Some kept → with_part kept x ≡ None → None ≡ kept_of all
kept_of-stopped {all} {before} {x} {kept} place is stops =
    sym
    (ap kept_of (sym place.whole)
    ∙ (fold-append (Some []) (before ++ x ∷ []) place.rest ∙ (ap (λ o. fold keeping o place.rest) (kept_of-push before x kept is ∙ stops) ∙ fold-none place.rest)))
