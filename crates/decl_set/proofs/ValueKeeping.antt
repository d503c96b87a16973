-- What each step of a walk keeps, the whole walk keeps.
use Rattle.std.proofs.Common.{length, ℕ, zero, suc, ◌+◌, ◌-◌, List, [], ◌∷◌, drop, Bool, true, false, cond, ◌≡◌, refl, Option, Some, None, IfSome, option_map, Result, Ok, Err, IfOk}
use Rattle.dtd_scanner.specs.Walk.{◌>>=◌, walk, over}

pub bind_keeps : {A B F : Type 0} (x : Result A F) (f : A → Result B F) (P : A → Type 0) (Q : B → Type 0) → IfOk x P → ((a : A) → P a → IfOk (f a) Q) → IfOk (x >>= f) Q
bind_keeps (Ok a) f P Q p keeps = keeps a p
bind_keeps (Err e) f P Q p keeps = tt

-- a choice of results, and of options
pub cond_ok : {A F : Type 0} (b : Bool) (x y : Result A F) (P : A → Type 0) → (b ≡ true → IfOk x P) → (b ≡ false → IfOk y P) → IfOk (cond b x y) P
cond_ok true x y P first second = first refl
cond_ok false x y P first second = second refl

pub cond_some : {A : Type 0} (b : Bool) (x y : Option A) (P : A → Type 0) → (b ≡ true → IfSome x P) → (b ≡ false → IfSome y P) → IfSome (cond b x y) P
cond_some true x y P first second = first refl
cond_some false x y P first second = second refl

pub map_some : {A B : Type 0} (f : A → B) (o : Option A) (P : A → Type 0) (Q : B → Type 0) → IfSome o P → ((a : A) → P a → Q (f a)) → IfSome (option_map f o) Q
map_some f None P Q p keeps = tt
map_some f (Some a) P Q p keeps = keeps a p

module _ {S F : Type 0} (step : ℕ → S → List ℕ → Result (S × ℕ) F) (P : S → Type 0) (Q : List ℕ → Type 0) (rest : (n : ℕ) (text : List ℕ) → Q text → Q (drop n text))
    (keeps : (at : ℕ) (s : S) (text : List ℕ) → P s → Q text → IfOk (step at s text) (λ (r : S × ℕ). P r.0)) where
  walk_keeps : (most at : ℕ) (s : S) (text : List ℕ) → P s → Q text → IfOk (walk step most at s text) P
  walk_keeps most at s [] p q = p
  walk_keeps zero at s (c ∷ text) p q = p
  walk_keeps (suc most) at s (c ∷ text) p q =
      bind_keeps (step at s (c ∷ text)) (λ r. walk step most (at + r.1) r.0 (drop (r.1 - 1) text)) (λ r. P r.0) P (keeps at s (c ∷ text) p q)
      (λ r h. walk_keeps most (at + r.1) r.0 (drop (r.1 - 1) text) h (rest (r.1 - 1) text (rest 1 (c ∷ text) q)))

  -- where the premise on the text stays true of what is left
  pub over_keeps : (at : ℕ) (s : S) (text : List ℕ) → P s → Q text → IfOk (over step at s text) P
  unfolding over
  over_keeps at s text = walk_keeps (length text) at s text
