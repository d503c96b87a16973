-- The number of a line is read back.
use Rattle.std.proofs.Common.{◌≡◌, ℕ, ◌+◌, ◌/◌, ◌%◌, ◌<◌, ◌≤◌, Bool, true, false, cond, ◌&&◌, List, [], ◌∷◌, ◌++◌, Some, refl, sym, ap, subst, arith, codes, ◌∙◌, IsTrue}
use Rattle.std.specs.Prelude.{Option, ◌==◌, nat_eq, nat_le, nat_lt, IsSome, unwrap_or}
use Rattle.std.specs.Fmt.{decimal}
use Rattle.std.specs.List.{find, starts_with}
use Rattle.std.specs.Option.{option_map}
use Rattle.std.proofs.lemmas.Bool.{and_parts, eqb-true, leb-true, ltb-true}
use Rattle.std.proofs.lemmas.Bool.Decides.{nat_tests}
use Rattle.jats_fault.specs.Table.{Row, table, head, is_of_two_digits, have_two_digits, name_in, name_of, number_in, number_told}
use Rattle.jats_fault.specs.Lines.{line_of, spaced, spaced_all}
use Rattle.jats_fault.specs.declared.fault.Fault.{Fault}
use Rattle.jats_fault.proofs.Heads.{head_digits}

-- two digits decide a number
digits_decide : (a b : ℕ) → (((48 + b / 10) == (48 + a / 10)) && (((48 + b % 10) == (48 + a % 10)) && true)) ≡ (b == a)
digits_decide a b = grind (arith, nat_tests)

begins : (a b : ℕ) (rest : List ℕ) → 10 ≤ a → a < 100 → 10 ≤ b → b < 100 → starts_with nat_eq (head a ++ rest) (head b) ≡ (b == a)
begins a b rest la ha lb hb =
    let P : List ℕ → List ℕ → Type 0 = λ x y. starts_with nat_eq (x ++ rest) y ≡ (b == a) in
    subst (λ (x : List ℕ). P x (head b)) (sym (head_digits a la ha)) (subst (λ (y : List ℕ). P (codes "refused E" ++ ((48 + a / 10) ∷ (48 + a % 10) ∷ 32 ∷ [])) y) (sym (head_digits b lb hb)) (digits_decide a b))

two : (n : ℕ) → IsTrue (is_of_two_digits n) → (10 ≤ n) × (n < 100)
two n h = let p = and_parts (nat_le 10 n) (nat_lt n 100) h in (leb-true 10 n p.0, ltb-true n 100 p.1)

first_or : (b : Bool) (row : Row) (x y : Option Row) → option_map (λ (r : Row). r.0) x ≡ option_map (λ (r : Row). r.0) y → option_map (λ (r : Row). r.0) (cond b (Some row) x) ≡ option_map (λ (r : Row). r.0) (cond b (Some row) y)
first_or true row x y h = refl
first_or false row x y h = h

-- the row that the beginning of a line finds is that of its number
in_rows : (rows : List Row) (n : ℕ) (rest : List ℕ) → IsTrue (have_two_digits rows) → 10 ≤ n → n < 100 → number_in rows (head n ++ rest) ≡ option_map (λ (r : Row). r.0) (find (λ r. r.0 == n) rows)
in_rows [] n rest h low high = refl
in_rows (row ∷ rows) n rest h low high =
    let both = and_parts (is_of_two_digits row.0) (have_two_digits rows) h in
    let digits = two row.0 both.0 in
    let F : Option Row = find (λ r. starts_with nat_eq (head n ++ rest) (head r.0)) rows in
    ap (λ (b : Bool). option_map (λ (r : Row). r.0) (cond b (Some row) F)) (begins n row.0 rest low high digits.0 digits.1)
    ∙ first_or (row.0 == n) row F (find (λ r. r.0 == n) rows) (in_rows rows n rest both.1 low high)

found_or : (b : Bool) (row : Row) (x : Option Row) (n : ℕ) → (b ≡ true → row.0 ≡ n) → (IsSome (option_map (λ (r : Row). r.1) x) → option_map (λ (r : Row). r.0) x ≡ Some n) → IsSome (option_map (λ (r : Row). r.1) (cond b (Some row) x)) → option_map (λ (r : Row). r.0) (cond b (Some row) x) ≡ Some n
found_or true row x n here later some = ap Some (here refl)
found_or false row x n here later some = later some

found : (rows : List Row) (n : ℕ) → IsSome (name_in rows n) → option_map (λ (r : Row). r.0) (find (λ r. r.0 == n) rows) ≡ Some n
found [] n some = cc
found (row ∷ rows) n some = found_or (row.0 == n) row (find (λ r. r.0 == n) rows) n (λ e. eqb-true _ _ e) (found rows n) some

two_or : (b : Bool) (row : Row) (x : Option Row) (n : ℕ) → (b ≡ true → row.0 ≡ n) → IsTrue (is_of_two_digits row.0) → (IsSome (option_map (λ (r : Row). r.1) x) → IsTrue (is_of_two_digits n)) → IsSome (option_map (λ (r : Row). r.1) (cond b (Some row) x)) → IsTrue (is_of_two_digits n)
two_or true row x n here digits later some = let P : ℕ → Type 0 = λ k. IsTrue (is_of_two_digits k) in subst P (here refl) digits
two_or false row x n here digits later some = later some

two_of : (rows : List Row) (n : ℕ) → IsTrue (have_two_digits rows) → IsSome (name_in rows n) → IsTrue (is_of_two_digits n)
two_of [] n h some = cc
two_of (row ∷ rows) n h some =
    let both = and_parts (is_of_two_digits row.0) (have_two_digits rows) h in
    two_or (row.0 == n) row (find (λ r. r.0 == n) rows) n (λ e. eqb-true _ _ e) both.0 (two_of rows n both.1) some

told_in : (n : ℕ) (rest : List ℕ) → IsSome (name_in table n) → number_in table (head n ++ rest) ≡ Some n
told_in n rest some =
    let digits = two n (two_of table n refl some) in
    in_rows table n rest refl digits.0 digits.1 ∙ found table n some

pub told : (fault : Fault) → IsSome (name_of fault.number) → number_told (line_of fault) ≡ Some fault.number
unfolding name_of number_told
told fault some =
    told_in fault.number (unwrap_or (name_of fault.number) [] ++ (spaced fault.place.module ++ (codes " " ++ (decimal fault.place.offset ++ (spaced_all fault.details ++ 0xA ∷ []))))) some
