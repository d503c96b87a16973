-- Open parentheses.
use Rattle.std.proofs.Common.{◌≡◌, [], ◌∷◌, ℕ, ◌+◌, ◌-◌, ◌<◌, ◌≤◌, max, length, drop, get_or, refl, ap, ◌∙◌, arith, true, false}
use Rattle.std.specs.Prelude.{if◌then◌else◌, ◌==◌, nat_lt}
use Rattle.content_models.specs.Model.{Chars}
use Rattle.content_models.specs.Parses.{open_after, most_open}
use Rattle.std.proofs.lemmas.Bool.Decides.{eqb_tells, nat_tests}
use Rattle.std.proofs.Common.{inl, inr}
use Rattle.content_models.proofs.Places.{cons_at, nil_at, eq-true, eq-false}

pub most-nil : (k : ℕ) → most_open k [] ≡ k
unfolding most_open
most-nil k = refl

pub most-cons : (k c : ℕ) (t : Chars) → most_open k (c ∷ t) ≡ max k (most_open (open_after k c) t)
unfolding most_open
most-cons k c t = refl

pub most-least : (k : ℕ) (t : Chars) → k ≤ most_open k t
most-least k [] = omega (arith, most-nil k)
most-least k (c ∷ t) = omega (arith, most-cons k c t)

-- one character further, as the test for more than 64 sees it
lt-max : (k m : ℕ) → k ≤ 64 → nat_lt 64 (max k m) ≡ nat_lt 64 m
lt-max k m h = grind (arith, nat_tests)

lt-true : (m : ℕ) → 64 < m → nat_lt 64 m ≡ true
lt-true m h = grind (arith, nat_tests)

deeper-step : (k c : ℕ) (t : Chars) → k ≤ 64 → nat_lt 64 (most_open k (c ∷ t)) ≡ nat_lt 64 (most_open (open_after k c) t)
deeper-step k c t h = ap (nat_lt 64) (most-cons k c t) ∙ lt-max k (most_open (open_after k c) t) h

pub after-open : (k c : ℕ) → c ≡ 40 → open_after k c ≡ k + 1
after-open k c e = ap (λ b. if b then k + 1 else (if c == 41 then k - 1 else k)) (eq-true c 40 e)

pub after-close : (k c : ℕ) → (c ≡ 40 → ⊥) → c ≡ 41 → open_after k c ≡ k - 1
after-close k c n e = ap (λ b. if b then k + 1 else (if c == 41 then k - 1 else k)) (eq-false c 40 n) ∙ ap (λ b. if b then k - 1 else k) (eq-true c 41 e)

pub after-other : (k c : ℕ) → (c ≡ 40 → ⊥) → (c ≡ 41 → 0 < k → ⊥) → open_after k c ≡ k
after-other k c n e = ap (λ b. if b then k + 1 else (if c == 41 then k - 1 else k)) (eq-false c 40 n) ∙ elim (eqb_tells c 41) [
  | inl q ↦ ap (λ b. if b then k - 1 else k) q.0 ∙ (let z : k - 1 ≡ k = omega (arith, e q.1) in z)
  | inr q ↦ ap (λ b. if b then k - 1 else k) q.0
]

pub depth_end : (k : ℕ) (t : Chars) (i : ℕ) → length t ≤ i → k ≤ 64 → nat_lt 64 (most_open k (drop i t)) ≡ false
depth_end k t i h b = ap (λ u. nat_lt 64 (most_open k u)) (nil_at t i h) ∙ ap (nat_lt 64) (most-nil k) ∙ grind (arith, nat_tests)

pub depth_over : (k : ℕ) (t : Chars) (i : ℕ) → i < length t → get_or t i 0 ≡ 40 → k ≡ 64 → nat_lt 64 (most_open k (drop i t)) ≡ true
depth_over k t i h e b =
    let m : most_open k (drop i t) ≡ max k (most_open (k + 1) (drop (i + 1) t)) =
    ap (most_open k) (cons_at t i h) ∙ most-cons k (get_or t i 0) (drop (i + 1) t)
    ∙ ap (λ j. max k (most_open j (drop (i + 1) t))) (after-open k (get_or t i 0) e) in
    let l : k + 1 ≤ most_open (k + 1) (drop (i + 1) t) = most-least (k + 1) (drop (i + 1) t) in
    ap (nat_lt 64) m ∙ lt-true (max k (most_open (k + 1) (drop (i + 1) t))) (omega arith)

pub depth_open : (k : ℕ) (t : Chars) (i : ℕ) → i < length t → get_or t i 0 ≡ 40 → k ≤ 64
    → nat_lt 64 (most_open k (drop i t)) ≡ nat_lt 64 (most_open (k + 1) (drop (i + 1) t))
depth_open k t i h e b = ap (λ u. nat_lt 64 (most_open k u)) (cons_at t i h) ∙ deeper-step k (get_or t i 0) (drop (i + 1) t) b
    ∙ ap (λ j. nat_lt 64 (most_open j (drop (i + 1) t))) (after-open k (get_or t i 0) e)

pub depth_close : (k : ℕ) (t : Chars) (i : ℕ) → i < length t → (get_or t i 0 ≡ 40 → ⊥) → get_or t i 0 ≡ 41 → k ≤ 64
    → nat_lt 64 (most_open k (drop i t)) ≡ nat_lt 64 (most_open (k - 1) (drop (i + 1) t))
depth_close k t i h n e b = ap (λ u. nat_lt 64 (most_open k u)) (cons_at t i h) ∙ deeper-step k (get_or t i 0) (drop (i + 1) t) b
    ∙ ap (λ j. nat_lt 64 (most_open j (drop (i + 1) t))) (after-close k (get_or t i 0) n e)

pub depth_other : (k : ℕ) (t : Chars) (i : ℕ) → i < length t → (get_or t i 0 ≡ 40 → ⊥) → (get_or t i 0 ≡ 41 → 0 < k → ⊥) → k ≤ 64
    → nat_lt 64 (most_open k (drop i t)) ≡ nat_lt 64 (most_open k (drop (i + 1) t))
depth_other k t i h n e b = ap (λ u. nat_lt 64 (most_open k u)) (cons_at t i h) ∙ deeper-step k (get_or t i 0) (drop (i + 1) t) b
    ∙ ap (λ j. nat_lt 64 (most_open j (drop (i + 1) t))) (after-other k (get_or t i 0) n e)

pub ruleset depths = (depth_end, depth_over, depth_open, depth_close, depth_other)
