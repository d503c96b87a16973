-- The characters of flat texts: Chars other than CR.
use Rattle.std.proofs.Common.{◌≡◌, ◌∙◌, ◌≤◌, ℕ, List, [], ◌∷◌, ◌++◌, Bool, true, false, not, eqb, ◌&&◌, refl, arith, true≢false, sym, ⊎_elim}
use Rattle.std.specs.Prelude.{nat_le}
use Rattle.std.specs.List.{list_all, list_any}
use Rattle.std.proofs.lemmas.Bool.{and_parts, and_from, or_cases, or_left, or_right, leb-true, le-leb, not_from_false}
use Rattle.std.proofs.lemmas.List.Folds.{list_all-append}
use Rattle.jats_chars.specs.Classes.{Rows, in_row, in_rows, is_char, is_name_char, is_pubid_char, char_rows, name_start_rows, name_more_rows, pubid_rows}
use Rattle.jats_chars.specs.Names.{is_name}
use Rattle.text_fronts.proofs.Fronts.{name_chars}
use Rattle.dtd_flattener.proofs.Fronts.{other_than, all_by}

-- a Char other than CR
abbrev pub is_text_char : ℕ → Bool
is_text_char c = is_char c && not (eqb c 13)

-- whether the one row lies in the other
abbrev inside : (ℕ × ℕ) → (ℕ × ℕ) → Bool
inside small big = nat_le big.0 small.0 && nat_le small.1 big.1

-- whether each of the rows lies in one of the others
abbrev all_inside : Rows → Rows → Bool
all_inside small big = list_all (λ row. list_any (inside row) big) small

in_bigger : (c : ℕ) (row : ℕ × ℕ) (big : Rows) → in_row c row ≡ true → list_any (inside row) big ≡ true → in_rows big c ≡ true
in_bigger c row [] is lies = absurd (true≢false (sym lies))
in_bigger c row (b ∷ big) is lies =
    ⊎_elim
    (λ here.
    let held = and_parts (nat_le row.0 c) (nat_le c row.1) is in
    let both = and_parts (nat_le b.0 row.0) (nat_le row.1 b.1) here in
    let low : b.0 ≤ c = omega (arith, leb-true b.0 row.0 both.0, leb-true row.0 c held.0) in
    let high : c ≤ b.1 = omega (arith, leb-true c row.1 held.1, leb-true row.1 b.1 both.1) in
    or_left (in_row c b) (in_rows big c) (and_from (nat_le b.0 c) (nat_le c b.1) (le-leb b.0 c low) (le-leb c b.1 high)))
    (λ later. or_right (in_row c b) (in_rows big c) (in_bigger c row big is later))
    (or_cases (inside row b) (list_any (inside row) big) lies)

pub in_all : (c : ℕ) (small big : Rows) → all_inside small big ≡ true → in_rows small c ≡ true → in_rows big c ≡ true
in_all c [] big lie is = absurd (true≢false (sym is))
in_all c (row ∷ small) big lie is =
    let parts = and_parts (list_any (inside row) big) (all_inside small big) lie in
    ⊎_elim (λ here. in_bigger c row big here parts.0) (λ later. in_all c small big parts.1 later) (or_cases (in_row c row) (in_rows small c) is)

pub text_char : (c : ℕ) → is_char c ≡ true → eqb c 13 ≡ false → is_text_char c ≡ true
text_char c is other = and_from (is_char c) (not (eqb c 13)) is (not_from_false (eqb c 13) other)

pub name_text_char : (c : ℕ) → is_name_char c ≡ true → is_text_char c ≡ true
unfolding is_name_char is_char
name_text_char c is =
    text_char c
    (⊎_elim (λ start. in_all c name_start_rows char_rows refl start) (λ more. in_all c name_more_rows char_rows refl more) (or_cases (in_rows name_start_rows c) (in_rows name_more_rows c) is))
    (other_than is_name_char 13 refl c is)

pub word_text : (w : List ℕ) → list_all is_name_char w ≡ true → list_all is_text_char w ≡ true
word_text w is = all_by is_name_char is_text_char name_text_char w is

pub name_text : (name : List ℕ) → is_name name ≡ true → list_all is_text_char name ≡ true
name_text name is = word_text name (name_chars name is)

pub pubid_char : (c : ℕ) → is_pubid_char c ≡ true → is_char c ≡ true
unfolding is_pubid_char is_char
pubid_char c is = in_all c pubid_rows char_rows refl is

-- two texts joined
pub text_joined : (first second : List ℕ) → list_all is_text_char first ≡ true → list_all is_text_char second ≡ true → list_all is_text_char (first ++ second) ≡ true
text_joined first second is also = list_all-append is_text_char first second ∙ and_from (list_all is_text_char first) (list_all is_text_char second) is also

-- Chars without CR
pub chars_text : (text : List ℕ) → list_all is_char text ≡ true → list_all (λ c. not (eqb c 13)) text ≡ true → list_all is_text_char text ≡ true
chars_text [] chars none = refl
chars_text (c ∷ cs) chars none =
    let first = and_parts (is_char c) (list_all is_char cs) chars in
    let second = and_parts (not (eqb c 13)) (list_all (λ d. not (eqb d 13)) cs) none in
    and_from (is_text_char c) (list_all is_text_char cs) (and_from (is_char c) (not (eqb c 13)) first.0 second.0) (chars_text cs first.1 second.1)
