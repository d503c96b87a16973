-- Names that are not among those before them.
use Rattle.std.proofs.Common.{◌≡◌, ◌∙◌, ℕ, List, [], ◌∷◌, ◌++◌, Bool, true, false, cond, not, ◌||◌, Some, None, refl, ap, true≢false, bytes_eq}
use Rattle.std.specs.List.{list_any}
use Rattle.std.specs.Map.{lookup}
use Rattle.std.proofs.lemmas.Bool.{and_parts, not-true}
use Rattle.attribute_types.proofs.TextTests.{bytes_swap}
use Rattle.decl_set.specs.Asked.{are_apart}

pub or_false : (a b : Bool) → (a || b) ≡ false → (a ≡ false) × (b ≡ false)
or_false true b h = absurd (true≢false h)
or_false false b h = (refl, h)

-- what no item passes fails at an item between
fails_between : {X : Type 0} (p : X → Bool) (before : List X) (x : X) (after : List X) → list_any p (before ++ (x ∷ after)) ≡ false → p x ≡ false
fails_between p [] x after none = (or_false (p x) (list_any p after) none).0
fails_between p (y ∷ before) x after none = fails_between p before x after (or_false (p y) (list_any p (before ++ (x ∷ after))) none).1

-- a name is not found among those before it
pub new_name : {X : Type 0} (before : List (List ℕ × X)) (e : List ℕ × X) (after : List (List ℕ × X)) → are_apart (before ++ (e ∷ after)) ≡ true → lookup (bytes_eq e.0) before ≡ None
new_name [] e after apart = refl
new_name (x ∷ before) e after apart =
    let parts = and_parts (not (list_any (λ other. bytes_eq x.0 other.0) (before ++ (e ∷ after)))) (are_apart (before ++ (e ∷ after))) apart in
    let off = bytes_swap x.0 e.0 (fails_between (λ other. bytes_eq x.0 other.0) before e after (not-true _ parts.0)) in
    ap (λ b. cond b (Some x.1) (lookup (bytes_eq e.0) before)) off ∙ new_name before e after parts.1
