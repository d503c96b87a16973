-- Numbers that are kept only as far as characters go.
use Rattle.std.proofs.Common.{◌≡◌, ◌∙◌, ℕ, ◌+◌, ◌*◌, ◌<◌, ◌≤◌, ◌⊎◌, Bool, true, false, Some, None, refl, sym, ap, arith, ⊎_elim, inl, inr, ◌||◌}
use Rattle.std.specs.Prelude.{min, nat_le}
use Rattle.std.proofs.Math.Nat.{min-eq_left, min-eq_right}
use Rattle.std.proofs.lemmas.Nat.{mul-le}
use Rattle.std.proofs.lemmas.Bool.{and_parts, leb-true, leb-false, false≢true, false_from_ne_true, or_cases}
use Rattle.jats_chars.specs.Classes.{is_char, in_row}
use Rattle.dtd_scanner.specs.References.{char_of}

-- a digit more, where only numbers below a bound are told apart
pub capped : (base v d most : ℕ) → 1 ≤ base → min (base * min v most + d) most ≡ min (base * v + d) most
capped base v d most some = by (nat_le v most) refl
  where
    by : (b : Bool) → nat_le v most ≡ b → min (base * min v most + d) most ≡ min (base * v + d) most
    by true is = let small : v ≤ most = leb-true v most is in rw (min-eq_left small) refl
    by false is =
        let large : most ≤ v = omega (arith, leb-false v most is) in
        let here : most ≤ base * most + d = omega (arith, mul-le 1 most base most some (omega arith)) in
        let there : most ≤ base * v + d = omega (arith, mul-le 1 most base v some large) in
        rw (min-eq_right large) (min-eq_right here ∙ sym (min-eq_right there))

row : (c a b : ℕ) → in_row c (a, b) ≡ true → (a ≤ c) × (c ≤ b)
row c a b is = let p = and_parts (nat_le a c) (nat_le c b) is in (leb-true a c p.0, leb-true c b p.1)

-- a Char is a scalar value
char_within : (n : ℕ) → is_char n ≡ true → (n ≤ 0xD7FF) ⊎ ((0xE000 ≤ n) × (n ≤ 0x10FFFF))
unfolding is_char
char_within n is =
    ⊎_elim (λ first. let h = row n 0x9 0xA first in inl (omega (arith, h.1)))
    (λ rest. ⊎_elim (λ second. let h = row n 0xD 0xD second in inl (omega (arith, h.1)))
    (λ rest. ⊎_elim (λ third. let h = row n 0x20 0xD7FF third in inl h.1)
    (λ rest. ⊎_elim (λ fourth. let h = row n 0xE000 0xFFFD fourth in inr (h.0, omega (arith, h.1)))
    (λ rest. ⊎_elim (λ fifth. let h = row n 0x10000 0x10FFFF fifth in inr (omega (arith, h.0), h.1)) (λ none. absurd (false≢true none))
    (or_cases (in_row n (0x10000, 0x10FFFF)) false rest))
    (or_cases (in_row n (0xE000, 0xFFFD)) (in_row n (0x10000, 0x10FFFF) || false) rest))
    (or_cases (in_row n (0x20, 0xD7FF)) (in_row n (0xE000, 0xFFFD) || (in_row n (0x10000, 0x10FFFF) || false)) rest))
    (or_cases (in_row n (0xD, 0xD)) (in_row n (0x20, 0xD7FF) || (in_row n (0xE000, 0xFFFD) || (in_row n (0x10000, 0x10FFFF) || false))) rest))
    (or_cases (in_row n (0x9, 0xA)) (in_row n (0xD, 0xD) || (in_row n (0x20, 0xD7FF) || (in_row n (0xE000, 0xFFFD) || (in_row n (0x10000, 0x10FFFF) || false)))) is)

no_char : (n : ℕ) → ¬ ((n ≤ 0xD7FF) ⊎ ((0xE000 ≤ n) × (n ≤ 0x10FFFF))) → char_of n ≡ None
no_char n out = rw (false_from_ne_true (is_char n) (λ is. out (char_within n is))) refl

-- a number that is no character names none
pub capped_none : (n code : ℕ) → code ≡ min n 0x110000 → ((0xD800 ≤ code) × (code ≤ 0xDFFF)) ⊎ (0x110000 ≤ code) → char_of n ≡ None
capped_none n code is out =
    no_char n (⊎_elim (λ low. ⊎_elim (λ s. omega (arith, s.0, s.1)) (λ large. omega arith) out) (λ high. ⊎_elim (λ s. omega (arith, s.0, s.1, high.0, high.1)) (λ large. omega (arith, high.0, high.1)) out))

-- a number that is one is whole
pub capped_some : (n code : ℕ) → code ≡ min n 0x110000 → code < 0x110000 → code ≡ n
capped_some n code is small = omega arith

pub capped_scalar : (n code c : ℕ) → code ≡ min n 0x110000 → (code < 0xD800) ⊎ ((0xE000 ≤ code) × (code ≤ 0x10FFFF)) → c ≡ code → c ≡ n
capped_scalar n code c is within same = same ∙ capped_some n code is (⊎_elim (λ low. omega arith) (λ high. omega (arith, high.1)) within)

pub char_is : (n c : ℕ) → c ≡ n → is_char c ≡ true → Some c ≡ char_of n
char_is n c same is = let e : char_of c ≡ Some c = rw is refl in sym e ∙ ap char_of same

pub char_is_none : (n c : ℕ) → c ≡ n → is_char c ≡ false → None ≡ char_of n
char_is_none n c same is = let e : char_of c ≡ None = rw is refl in sym e ∙ ap char_of same
