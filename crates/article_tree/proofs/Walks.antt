-- Going over a text token by token.
use Rattle.std.proofs.Common.{◌≡◌, ℕ, ◌+◌, ◌-◌, List, [], ◌∷◌, length, drop, Result, Ok, Err, refl, ap}
use Rattle.dtd_scanner.specs.Walk.{◌>>=◌, walk, over}

module _ {S F : Type 0} (step : ℕ → S → List ℕ → Result (S × ℕ) F) where
  pub over_nil : (at : ℕ) (s : S) → over step at s [] ≡ Ok s
  unfolding over
  over_nil at s = refl

  pub over_fault : (at : ℕ) (s : S) (c : ℕ) (cs : List ℕ) (e : F) → step at s (c ∷ cs) ≡ Err e → over step at s (c ∷ cs) ≡ Err e
  unfolding over
  over_fault at s c cs e is = ap (λ (r : Result (S × ℕ) F). r >>= λ q. walk step (length cs) (at + q.1) q.0 (drop (q.1 - 1) cs)) is
