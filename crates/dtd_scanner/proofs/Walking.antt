-- Going over a text, at places.
use Rattle.std.proofs.Common.{◌≡◌, ◌∙◌, ℕ, zero, suc, ◌+◌, ◌-◌, ◌<◌, ◌≤◌, List, [], ◌∷◌, length, drop, Result, Ok, Err, refl, ap, arith, length-drop}
use Rattle.std.proofs.lemmas.List.{drop-drop}
use Rattle.dtd_scanner.specs.Walk.{◌>>=◌, walk, over}

pub bind_cong : {A B F : Type 0} (x : Result A F) (f g : A → Result B F) → ((a : A) → f a ≡ g a) → (x >>= f) ≡ (x >>= g)
bind_cong (Ok a) f g same = same a
bind_cong (Err e) f g same = refl

pub bind_assoc : {A B C F : Type 0} (x : Result A F) (f : A → Result B F) (g : B → Result C F) → ((x >>= f) >>= g) ≡ (x >>= λ a. f a >>= g)
bind_assoc (Ok a) f g = refl
bind_assoc (Err e) f g = refl

pub bind_ok : {A F : Type 0} (x : Result A F) → (x >>= λ a. Ok a) ≡ x
bind_ok (Ok a) = refl
bind_ok (Err e) = refl

module _ {S F : Type 0} (step : ℕ → S → List ℕ → Result (S × ℕ) F) where
  -- more steps than characters are not needed
  walk_enough : (most more at : ℕ) (s : S) (text : List ℕ) → length text ≤ most → length text ≤ more → walk step most at s text ≡ walk step more at s text
  walk_enough most more at s [] l m = refl
  walk_enough zero more at s (c ∷ text) l m = absurd (omega arith)
  walk_enough (suc most) zero at s (c ∷ text) l m = absurd (omega arith)
  walk_enough (suc most) (suc more) at s (c ∷ text) l m =
      bind_cong (step at s (c ∷ text)) _ _ (λ r. walk_enough most more (at + r.1) r.0 (drop (r.1 - 1) text) (omega (arith, length-drop (r.1 - 1) text)) (omega (arith, length-drop (r.1 - 1) text)))

  -- Where nothing is left, the state stays.
  pub over_end : (at : ℕ) (s : S) (text : List ℕ) → length text ≡ 0 → over step at s text ≡ Ok s
  unfolding over
  over_end at s [] none = refl
  over_end at s (c ∷ text) none = absurd (omega arith)

  -- Where something is left, one step is taken, and the rest is gone over behind it.
  pub over_next : (at n : ℕ) (s : S) (text : List ℕ) (x : Result S F) → 0 < length text → 0 < n → step at s text ≡ (x >>= λ v. Ok (v, n)) → over step at s text ≡ (x >>= λ v. over step (at + n) v (drop n text))
  unfolding over
  over_next at n s [] x some pos is = absurd (omega arith)
  over_next at zero s (c ∷ text) x some pos is = absurd (omega arith)
  over_next at (suc n) s (c ∷ text) x some pos is =
      let one : suc n - 1 ≡ n = omega arith in
      let rest = λ (q : S × ℕ). walk step (length text) (at + q.1) q.0 (drop (q.1 - 1) text) in
      ap (λ (r : Result (S × ℕ) F). r >>= rest) is ∙ bind_assoc x (λ v. Ok (v, suc n)) rest
      ∙ bind_cong x (λ v. rest (v, suc n)) (λ v. over step (at + suc n) v (drop n text)) (λ v. rw one (walk_enough (length text) (length (drop n text)) (at + suc n) v (drop n text) (omega (arith, length-drop n text)) (omega arith)))

  -- Where something is left, one step is taken, and the rest is gone over from its end.
  pub over_at : (at n : ℕ) (s : S) (text : List ℕ) (x : Result S F) → at < length text → 0 < n → step at s (drop at text) ≡ (x >>= λ v. Ok (v, n))
      → over step at s (drop at text) ≡ (x >>= λ v. over step (at + n) v (drop (at + n) text))
  over_at at n s text x here pos is =
      over_next at n s (drop at text) x (omega (arith, length-drop at text)) pos is ∙ bind_cong x _ _ (λ v. ap (over step (at + n) v) (drop-drop n at text))
