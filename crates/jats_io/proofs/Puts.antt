-- What is held once bytes are put under a name.
use Rattle.std.proofs.Common.{◌≡◌, ℕ, List, [], ◌∷◌, ◌++◌, map, Bool, true, false, cond, refl, sym, ap, ◌∙◌, Some}
use Rattle.std.specs.Prelude.{◌≢◌, is_some, bytes_eq}
use Rattle.std.proofs.lemmas.Bool.{false_from_ne_true}
use Rattle.std.proofs.lemmas.Slice.Eq.{bytes_eq-Decides}
use Rattle.jats_io.specs.Loads.{held, put_in}

abbrev Files : Type 0
Files = List (List ℕ × List ℕ)

abbrev names_of : Files → List (List ℕ)
names_of files = map (λ file. file.0) files

bytes_eq-same : (name : List ℕ) → bytes_eq name name ≡ true
bytes_eq-same name = (bytes_eq-Decides name name).1 refl

bytes_eq-other : (a b : List ℕ) → a ≢ b → bytes_eq a b ≡ false
bytes_eq-other a b differ = false_from_ne_true (bytes_eq a b) (λ same. differ ((bytes_eq-Decides a b).0 same))

held_at : (file : List ℕ × List ℕ) (files later : Files) (name bytes : List ℕ) (b : Bool) → bytes_eq name file.0 ≡ b → held later name ≡ Some bytes
    → held (cond b ((file.0, bytes) ∷ files) (file ∷ later)) name ≡ Some bytes
held_at file files later name bytes true e h = rw e refl
held_at file files later name bytes false e h = rw (e, h) refl

-- the name that was put
pub held-put_in : (files : Files) (name bytes : List ℕ) → held (put_in files name bytes) name ≡ Some bytes
held-put_in [] name bytes = rw bytes_eq-same refl
held-put_in (file ∷ files) name bytes = held_at file files (put_in files name bytes) name bytes (bytes_eq name file.0) refl (held-put_in files name bytes)

kept_at : (file : List ℕ × List ℕ) (files later : Files) (name bytes other : List ℕ) (b : Bool) → bytes_eq name file.0 ≡ b → other ≢ name
    → held later other ≡ held files other → held (cond b ((file.0, bytes) ∷ files) (file ∷ later)) other ≡ held (file ∷ files) other
kept_at file files later name bytes other true e differ h = rw (bytes_eq-other other file.0 (λ same. differ (same ∙ sym ((bytes_eq-Decides name file.0).0 e)))) refl
kept_at file files later name bytes other false e differ h = rw h refl

-- another name
pub held-put_in-other : (files : Files) (name bytes other : List ℕ) → other ≢ name → held (put_in files name bytes) other ≡ held files other
held-put_in-other [] name bytes other differ = rw (bytes_eq-other other name differ) refl
held-put_in-other (file ∷ files) name bytes other differ =
    kept_at file files (put_in files name bytes) name bytes other (bytes_eq name file.0) refl differ (held-put_in-other files name bytes other differ)

cons-cond : {A : Type 0} (x : A) (xs ys : List A) (b : Bool) → x ∷ cond b xs ys ≡ cond b (x ∷ xs) (x ∷ ys)
cons-cond x xs ys true = refl
cons-cond x xs ys false = refl

-- the names in order
pub names-put_in : (files : Files) (name bytes : List ℕ)
    → names_of (put_in files name bytes) ≡ cond (is_some (held files name)) (names_of files) (names_of files ++ name ∷ [])
names-put_in [] name bytes = refl
names-put_in (file ∷ files) name bytes =
    elim (bytes_eq name file.0)
    as (λ b. names_of (cond b ((file.0, bytes) ∷ files) (file ∷ put_in files name bytes))
    ≡ cond (is_some (cond b (Some file.1) (held files name))) (file.0 ∷ names_of files) (file.0 ∷ (names_of files ++ name ∷ []))) [
      | true ↦ refl
      | false ↦ ap (λ names. file.0 ∷ names) (names-put_in files name bytes) ∙ cons-cond file.0 _ _ (is_some (held files name))
    ]
