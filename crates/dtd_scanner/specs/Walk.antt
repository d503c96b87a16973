-- Going over a text from the left, piece by piece.
use Rattle.std.specs.Prelude.{ℕ, zero, suc, ◌+◌, ◌-◌, length, List, [], ◌∷◌, drop, Result, Ok, Err}

infixl 10 ◌>>=◌
-- the next step, where there is no fault
abbrev pub ◌>>=◌ : {A B F : Type 0} → Result A F → (A → Result B F) → Result B F
(Ok x) >>= f = f x
(Err e) >>= f = Err e

-- The state after a text: each step sees the place, the state and what is left of the text, and gives the next state and
-- how many characters it takes. There are no more steps than the first number.
abbrev pub walk : {S F : Type 0} → (ℕ → S → List ℕ → Result (S × ℕ) F) → ℕ → ℕ → S → List ℕ → Result S F
walk step most at s [] = Ok s
walk step zero at s (c ∷ text) = Ok s
walk step (suc most) at s (c ∷ text) = step at s (c ∷ text) >>= λ r. walk step most (at + r.1) r.0 (drop (r.1 - 1) text)

-- the state after a text that begins at this place: a step takes one character at least, so there are no more steps than characters
unfoldable pub over : {S F : Type 0} → (ℕ → S → List ℕ → Result (S × ℕ) F) → ℕ → S → List ℕ → Result S F
over step at s text = walk step (length text) at s text
