-- Characters as they are written in values.
use Rattle.std.proofs.Common.{◌≡◌, ◌∙◌, ℕ, ◌+◌, ◌^◌, ◌<◌, ◌≤◌, List, [], ◌∷◌, ◌++◌, length, Bool, true, false, cond, not, refl, ap, arith, append_assoc, length-append, Option, Some, option_map, ◌&&◌, ◌||◌, codes, eqb, ⊎_elim}
use Rattle.std.specs.Prelude.{IsTrue, nat_lt, nat_le, nat_eq}
use Rattle.std.specs.List.{list_all, list_any, prefix_len, starts_with}
use Rattle.std.specs.Fmt.{decimal}
use Rattle.std.proofs.Math.Seq.{drop-append_seam, take-append_seam}
use Rattle.std.proofs.lemmas.Bool.{and_parts, or_cases, eqb-true, leb-true, lt-ltb, false≢true, false_from_ne_true}
use Rattle.std.proofs.lemmas.List.Folds.{prefix_len-append}
use Rattle.jats_chars.specs.Classes.{Rows, in_row, char_rows, is_char, is_space}
use Rattle.dtd_scanner.specs.References.{char_reference, is_digit, numeral}
use Rattle.decl_set.specs.ValueEscaped.{decimal_reference, stands_for_itself}
use Rattle.decl_set.specs.Values.{value_piece}
use Rattle.decl_set.specs.ValueFrames.{StandsFor}
use Rattle.decl_set.specs.declared.pieces.Kind.TheVariants.{Char}
use Rattle.decl_set.specs.declared.pieces.Piece.{Piece}
use Rattle.decl_set.proofs.ValueDecimals.{IsWritten, decimal_written}

-- this text stands for a character, whatever follows
pub record Writes (text : List ℕ) (c : ℕ) : Type 0 where
  pub filled : 0 < length text
  pub stands : (rest : List ℕ) → StandsFor (text ++ rest) c (length text)

-- ---- characters as they are

-- a space, or a character that is none of the three
itself_piece : (c : ℕ) (rest : List ℕ) → eqb c 38 ≡ false → eqb c 60 ≡ false → (not (is_space c) || eqb c 32) ≡ true → value_piece (c ∷ rest) ≡ Some (record { kind = Char c; len = 1 })
unfolding value_piece
itself_piece c rest and less space = rw (and, less) (by (is_space c) space)
  where
    by : (b : Bool) → (not b || eqb c 32) ≡ true → cond {A = Option Piece} b (Some (record { kind = Char 32; len = 1 })) (Some (record { kind = Char c; len = 1 })) ≡ Some (record { kind = Char c; len = 1 })
    by true is = let e : c ≡ 32 = eqb-true c 32 is in rw e refl
    by false is = refl

not_false : (b : Bool) → not b ≡ true → b ≡ false
not_false true is = absurd (false≢true is)
not_false false is = refl

pub itself_writes : (c : ℕ) → IsTrue (stands_for_itself c) → Writes (c ∷ []) c
itself_writes c is =
    let parts = and_parts (not (eqb c 38)) (not (eqb c 60) && (not (is_space c) || eqb c 32)) is in
    let others = and_parts (not (eqb c 60)) (not (is_space c) || eqb c 32) parts.1 in
    record { filled = omega arith; stands = λ rest deeper entities names at w. rw (itself_piece c rest (not_false (eqb c 38) parts.0) (not_false (eqb c 60) others.0) others.1) refl }

-- ---- decimal references

within_rows : (rows : Rows) (most c : ℕ) → list_all (λ row. nat_le row.1 most) rows ≡ true → list_any (in_row c) rows ≡ true → c ≤ most
within_rows [] most c small is = absurd (false≢true is)
within_rows (row ∷ rows) most c small is =
    let h = and_parts (nat_le row.1 most) (list_all (λ r. nat_le r.1 most) rows) small in
    ⊎_elim (λ here. let e = and_parts (nat_le row.0 c) (nat_le c row.1) here in omega (arith, leb-true c row.1 e.1, leb-true row.1 most h.0)) (λ there. within_rows rows most c h.1 there)
    (or_cases (in_row c row) (list_any (in_row c) rows) is)

char_small : (c : ℕ) → IsTrue (is_char c) → c < 2 ^ 64
unfolding is_char
char_small c is = let h : c ≤ 0x10FFFF = within_rows char_rows 0x10FFFF c refl is in omega arith

-- digits are no `x`, and they end at a `;`
no_x : (ds rest : List ℕ) → 0 < length ds → IsTrue (list_all is_digit ds) → starts_with nat_eq (ds ++ rest) (codes "x") ≡ false
no_x [] rest some digits = absurd (omega arith)
no_x (d ∷ ds) rest some digits =
    let small = leb-true d 57 (and_parts (nat_le 48 d) (nat_le d 57) (and_parts (is_digit d) (list_all is_digit ds) digits).0).1 in
    rw (false_from_ne_true (eqb 120 d) (λ is. let e = eqb-true 120 d is in omega (arith, small, e))) refl

all_prefix : (p : ℕ → Bool) (ds : List ℕ) → IsTrue (list_all p ds) → prefix_len p ds ≡ length ds
all_prefix p [] all = refl
all_prefix p (d ∷ ds) all = let h = and_parts (p d) (list_all p ds) all in rw (h.0, all_prefix p ds h.1) (omega arith)

digits_end : (ds rest : List ℕ) → IsTrue (list_all is_digit ds) → prefix_len is_digit (ds ++ 59 ∷ rest) ≡ length ds
digits_end ds rest all = prefix_len-append is_digit ds (59 ∷ rest) ∙ rw (all_prefix is_digit ds all) (by (eqb (length ds) (length ds)))
  where
    by : (b : Bool) → cond b (length ds + 0) (length ds) ≡ length ds
    by true = omega arith
    by false = refl

numeral_is : (c : ℕ) (ds rest : List ℕ) → IsTrue (is_char c) → IsWritten c ds → numeral 10 is_digit 2 (ds ++ 59 ∷ rest) ≡ Some (c, 2 + length ds + 1)
numeral_is c ds rest is w =
    let some : nat_lt 0 (length ds) ≡ true = lt-ltb 0 (length ds) w.filled in
    rw (digits_end ds rest w.digits, drop-append_seam ds (59 ∷ rest), take-append_seam ds (59 ∷ rest), some, w.value, is) refl

reference_is : (c : ℕ) (ds rest : List ℕ) → IsTrue (is_char c) → IsWritten c ds → char_reference (38 ∷ 35 ∷ (ds ++ 59 ∷ rest)) ≡ Some (c, 2 + length ds + 1)
reference_is c ds rest is w = rw (no_x ds (59 ∷ rest) w.filled w.digits) (numeral_is c ds rest is w)

reference_piece : (c : ℕ) (ds rest : List ℕ) → IsTrue (is_char c) → IsWritten c ds → value_piece (38 ∷ 35 ∷ (ds ++ 59 ∷ rest)) ≡ Some (record { kind = Char c; len = 2 + length ds + 1 })
unfolding value_piece
reference_piece c ds rest is w = ap (option_map (λ (r : ℕ × ℕ). record { kind = Char r.0; len = r.1 })) (reference_is c ds rest is w)

pub decimal_writes : (c : ℕ) → IsTrue (is_char c) → Writes (decimal_reference c) c
decimal_writes c is =
    let ds = decimal c in
    let w = decimal_written c (char_small c is) in
    record {
      filled = omega arith;
      stands = λ rest deeper entities names at v.
          let len : length (decimal_reference c) ≡ 2 + length ds + 1 = simp length-append (omega arith) in
          let piece : value_piece (decimal_reference c ++ rest) ≡ Some (record { kind = Char c; len = 2 + length ds + 1 }) = ap (λ t. value_piece (38 ∷ 35 ∷ t)) (append_assoc ds (codes ";") rest) ∙ reference_piece c ds rest is w in
          rw (len, piece) refl;
    }
