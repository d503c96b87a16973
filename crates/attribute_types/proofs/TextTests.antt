-- Tests of texts and lists of texts.
use Rattle.std.proofs.Common.{◌≡◌, ℕ, Bool, true, false, cond, ◌||◌, not, List, [], ◌∷◌, refl, sym, ap, subst, bytes_eq, Some, None, find}
use Rattle.std.specs.Prelude.{Option}
use Rattle.std.specs.List.{list_all}
use Rattle.std.proofs.lemmas.Bool.{both_ways, and_parts, and_from}
use Rattle.std.proofs.lemmas.Slice.Eq.{bytes_eq-Decides}
use Rattle.attribute_types.specs.Classes.{among}

-- by what a test answers
pub on_test : (P : Bool → Type 0) (b : Bool) → (b ≡ true → P true) → (b ≡ false → P false) → P b
on_test P true at_true at_false = at_true refl
on_test P false at_true at_false = at_false refl

pub bytes_same : (x y : List ℕ) → bytes_eq x y ≡ true → x ≡ y
bytes_same x y t = (bytes_eq-Decides x y).0 t

pub bytes_own : (x : List ℕ) → bytes_eq x x ≡ true
bytes_own x = (bytes_eq-Decides x x).1 refl

pub bytes_apart : (x y : List ℕ) → (x ≡ y → ⊥) → bytes_eq x y ≡ false
bytes_apart x y apart = by (bytes_eq x y) refl
  where
    by : (b : Bool) → bytes_eq x y ≡ b → bytes_eq x y ≡ false
    by true e = absurd (apart (bytes_same x y e))
    by false e = e

pub bytes_swap : (x y : List ℕ) → bytes_eq x y ≡ false → bytes_eq y x ≡ false
bytes_swap x y off = bytes_apart y x (λ e. both_ways (bytes_eq x y) off (subst (λ (z : List ℕ). bytes_eq x z ≡ true) (sym e) (bytes_own x)))

-- what holds of all of a list holds of each text in it
pub all_among : (p : List ℕ → Bool) (xs : List (List ℕ)) (e : List ℕ) → list_all p xs ≡ true → among xs e ≡ true → p e ≡ true
all_among p [] e all at = absurd (both_ways false refl at)
all_among p (x ∷ xs) e all at =
    let Q : Bool → Type 0 = λ b. (b || among xs e) ≡ true → p e ≡ true in
    on_test Q (bytes_eq e x)
    (λ same at. subst (λ (y : List ℕ). p y ≡ true) (sym (bytes_same e x same)) (and_parts (p x) (list_all p xs) all).0)
    (λ other at. all_among p xs e (and_parts (p x) (list_all p xs) all).1 at)
    at

in_rest : (b c : Bool) → c ≡ true → (b || c) ≡ true
in_rest true c h = refl
in_rest false c h = h

-- what a search for a text that fails gives
abbrev pub Fails : (List ℕ → Bool) → List (List ℕ) → Option (List ℕ) → Type 0
Fails p xs None = list_all p xs ≡ true
Fails p xs (Some x) = (among xs x ≡ true) × (p x ≡ false)

fails_later : (p : List ℕ → Bool) (x : List ℕ) (xs : List (List ℕ)) → p x ≡ true → (o : Option (List ℕ)) → Fails p xs o → Fails p (x ∷ xs) o
fails_later p x xs passes None all = and_from (p x) (list_all p xs) passes all
fails_later p x xs passes (Some y) h = (in_rest (bytes_eq y x) (among xs y) h.0, h.1)

pub found_in : (p : List ℕ → Bool) (xs : List (List ℕ)) → Fails p xs (find (λ x. not (p x)) xs)
found_in p [] = refl
found_in p (x ∷ xs) =
    let Q : Bool → Type 0 = λ b. p x ≡ b → Fails p (x ∷ xs) (cond (not b) (Some x) (find (λ y. not (p y)) xs)) in
    on_test Q (p x)
    (λ passes e. fails_later p x xs passes (find (λ y. not (p y)) xs) (found_in p xs))
    (λ fails e. (ap (λ b. b || among xs x) (bytes_own x), fails))
    refl
