-- Numbers in decimal digits, read back.
use Rattle.std.proofs.Common.{◌≡◌, ◌∙◌, ℕ, ◌+◌, ◌*◌, ◌/◌, ◌%◌, ◌^◌, ◌<◌, ◌≤◌, List, [], ◌∷◌, ◌++◌, length, refl, arith, length-append}
use Rattle.std.specs.Prelude.{IsTrue}
use Rattle.std.specs.List.{list_all}
use Rattle.std.specs.Fmt.{decimal}
use Rattle.std.specs.Cmp.Derive.{both_true}
use Rattle.std.proofs.lemmas.Bool.{le-leb}
use Rattle.std.proofs.lemmas.Fmt.{decimal_by_steps}
use Rattle.std.proofs.lemmas.List.Folds.{list_all-append}
use Rattle.std.proofs.lemmas.List.Sums.{fold-append}
use Rattle.dtd_scanner.specs.References.{is_digit, digit_value, number}

-- these digits write the number
pub record IsWritten (n : ℕ) (ds : List ℕ) : Type 0 where
  pub filled : 0 < length ds
  pub digits : IsTrue (list_all is_digit ds)
  pub value : number 10 ds ≡ n

digit_is : (n : ℕ) → n < 10 → IsTrue (is_digit (48 + n))
digit_is n small = both_true (le-leb 48 (48 + n) (omega arith)) (le-leb (48 + n) 57 (omega arith))

digit_tells : (n : ℕ) → n < 10 → digit_value (48 + n) ≡ n
digit_tells n small = rw (le-leb (48 + n) 57 (omega arith)) (omega arith)

one : (n : ℕ) → n < 10 → IsWritten n ((48 + n) ∷ [])
one n small = record { filled = omega arith; digits = both_true (digit_is n small) refl; value = rw (digit_tells n small) (omega arith) }

more : (n : ℕ) (ds : List ℕ) → 10 ≤ n → IsWritten (n / 10) ds → IsWritten n (ds ++ ((48 + n % 10) ∷ []))
more n ds large w =
    let last : n % 10 < 10 = omega arith in
    record {
      filled = rw length-append (omega (arith, w.filled));
      digits = list_all-append is_digit ds ((48 + n % 10) ∷ []) ∙ both_true w.digits (both_true (digit_is (n % 10) last) refl);
      value = fold-append (λ k c. 10 * k + digit_value c) 0 ds ((48 + n % 10) ∷ []) ∙ rw (w.value, digit_tells (n % 10) last) (omega arith);
    }

pub decimal_written : (n : ℕ) → n < 2 ^ 64 → IsWritten n (decimal n)
decimal_written n fits = decimal_by_steps IsWritten one more n fits
