-- Lines that begin as that of an absent module.
use Rattle.std.proofs.Common.{◌≡◌, ◌∙◌, ℕ, ◌<◌, ◌^◌, lit≤, lit<, true, false, ◌&&◌, List, [], ◌∷◌, ◌++◌, take, nat_eq, sym, ap, IsTrue, codes, arith}
use Rattle.std.specs.Cmp.Lexicographic.{pointwise}
use Rattle.std.specs.Fmt.{decimal}
use Rattle.std.specs.Str.Parse.{AllDigits}
use Rattle.std.proofs.lemmas.Fmt.{decimal_is_IsNumeral, decimal_injective}
use Rattle.std.proofs.lemmas.Str.Parse.{digit_from_value}
use Rattle.std.proofs.lemmas.Bool.{and_parts, eqb-true}
use Rattle.jats_fault.specs.Lines.{line_of}
use Rattle.jats_fault.specs.declared.fault.Fault.{Fault}
use Rattle.jats_fault.proofs.Heads.{decimal_digits}
use Rattle.tagset_tool.specs.Runs.{is_absence}

-- digits and a space that begin with `10 ` are those of ten
ten_spelled : (ds rest : List ℕ) → AllDigits 10 ds → IsTrue (pointwise nat_eq (codes "10 ") (take 3 ((ds ++ 32 ∷ []) ++ rest))) → ds ≡ 49 ∷ 48 ∷ []
ten_spelled [] rest digits t = cc
ten_spelled (a ∷ []) rest digits t = let p = and_parts (nat_eq 49 a) false t in cc
ten_spelled (a ∷ b ∷ []) rest digits t =
    let p = and_parts (nat_eq 49 a) (nat_eq 48 b && true) t in
    let q = and_parts (nat_eq 48 b) true p.1 in
    let x : 49 ≡ a = eqb-true 49 a p.0 in
    let y : 48 ≡ b = eqb-true 48 b q.0 in
    ap (λ n. n ∷ b ∷ []) (sym x) ∙ ap (λ n. 49 ∷ n ∷ []) (sym y)
ten_spelled (a ∷ b ∷ c ∷ ds) rest digits t =
    let p = and_parts (nat_eq 49 a) (nat_eq 48 b && (nat_eq 32 c && true)) t in
    let q = and_parts (nat_eq 48 b) (nat_eq 32 c && true) p.1 in
    let r = and_parts (nat_eq 32 c) true q.1 in
    let z : 32 ≡ c = eqb-true 32 c r.0 in
    absurd (let d = digit_from_value c digits.1.1.0 in omega arith)

-- the number of the line of an absent module is 10
pub absence_number : (f : Fault) → f.number < 2 ^ 16 → IsTrue (is_absence (line_of f)) → f.number ≡ 10
absence_number f small t =
    decimal_injective f.number 10 (omega arith) (lit< tt)
    (ten_spelled (decimal f.number) _ (decimal_is_IsNumeral f.number (omega arith)).0.1 t ∙ sym (decimal_digits 10 (lit≤ tt) (lit< tt)))
