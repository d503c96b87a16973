-- How lines of two-digit numbers begin.
use Rattle.std.proofs.Common.{◌≡◌, ℕ, ◌+◌, ◌/◌, ◌%◌, ◌<◌, ◌≤◌, [], ◌∷◌, ◌++◌, ap, arith, codes, ◌∙◌}
use Rattle.std.specs.Fmt.{decimal}
use Rattle.std.proofs.lemmas.Fmt.{decimal_digit, decimal_step}
use Rattle.jats_fault.specs.Table.{head}

pub decimal_digits : (n : ℕ) → 10 ≤ n → n < 100 → decimal n ≡ (48 + n / 10) ∷ (48 + n % 10) ∷ []
decimal_digits n low high =
    let tens : n / 10 < 10 = omega arith in
    decimal_step n low (omega arith) ∙ ap (λ ds. ds ++ ((48 + n % 10) ∷ [])) (decimal_digit (n / 10) tens)

pub head_digits : (n : ℕ) → 10 ≤ n → n < 100 → head n ≡ codes "refused E" ++ ((48 + n / 10) ∷ (48 + n % 10) ∷ 32 ∷ [])
head_digits n low high = ap (λ ds. codes "refused E" ++ (ds ++ codes " ")) (decimal_digits n low high)
