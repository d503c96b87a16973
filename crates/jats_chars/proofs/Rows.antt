-- Rows of code points: what a row bounds, and rows within rows (XML 1.0, 2.2 and 2.3).
use Rattle.std.proofs.Common.{◌≡◌, ◌≤◌, ℕ, Bool, true, false, ◌&&◌, List, [], ◌∷◌, refl, arith, ⊎_elim}
use Rattle.std.specs.Prelude.{nat_le}
use Rattle.std.specs.List.{list_any, list_all}
use Rattle.std.proofs.lemmas.Bool.{both_ways, and_parts, and_from, or_cases, or_left, or_right, le-leb, leb-true}
use Rattle.jats_chars.specs.Chars.{are_chars}
use Rattle.jats_chars.specs.Classes.{Rows, in_row, in_rows, char_rows, space_rows, name_start_rows, name_more_rows, pubid_rows, is_char, is_space, is_name_start, is_name_char, is_pubid_char}
use Rattle.jats_chars.specs.Names.{is_name, is_nmtoken}

-- a row bounds the characters that it holds
pub row_bounds : (c low high : ℕ) → in_row c (low, high) ≡ true → (low ≤ c) × (c ≤ high)
row_bounds c low high h = let p = and_parts (nat_le low c) (nat_le c high) h in (leb-true low c p.0, leb-true c high p.1)

-- whether one row lies within another
abbrev pub row_within : (ℕ × ℕ) → (ℕ × ℕ) → Bool
row_within x y = nat_le y.0 x.0 && nat_le x.1 y.1

-- whether each of the rows lies within one of the others
abbrev pub all_within : Rows → Rows → Bool
all_within xs ys = list_all (λ x. list_any (row_within x) ys) xs

in_wider : (x y : ℕ × ℕ) (c : ℕ) → row_within x y ≡ true → in_row c x ≡ true → in_row c y ≡ true
in_wider x y c w h =
    let p = and_parts (nat_le y.0 x.0) (nat_le x.1 y.1) w in
    let q = row_bounds c x.0 x.1 h in
    let low : y.0 ≤ c = omega (arith, leb-true y.0 x.0 p.0, q.0) in
    let high : c ≤ y.1 = omega (arith, leb-true x.1 y.1 p.1, q.1) in
    and_from (nat_le y.0 c) (nat_le c y.1) (le-leb y.0 c low) (le-leb c y.1 high)

within_one : (x : ℕ × ℕ) (rows : Rows) (c : ℕ) → list_any (row_within x) rows ≡ true → in_row c x ≡ true → in_rows rows c ≡ true
within_one x [] c w h = absurd (both_ways false refl w)
within_one x (y ∷ rows) c w h =
    ⊎_elim (λ here. or_left (in_row c y) (in_rows rows c) (in_wider x y c here h))
    (λ later. or_right (in_row c y) (in_rows rows c) (within_one x rows c later h))
    (or_cases (row_within x y) (list_any (row_within x) rows) w)

-- what rows hold, rows hold within which they lie
pub within_all : (xs ys : Rows) (c : ℕ) → all_within xs ys ≡ true → in_rows xs c ≡ true → in_rows ys c ≡ true
within_all [] ys c w h = absurd (both_ways false refl h)
within_all (x ∷ xs) ys c w h =
    let p = and_parts (list_any (row_within x) ys) (all_within xs ys) w in
    ⊎_elim (λ here. within_one x ys c p.0 here) (λ later. within_all xs ys c p.1 later) (or_cases (in_row c x) (in_rows xs c) h)

-- ---- classes within classes

pub start_is_name_char : (c : ℕ) → is_name_start c ≡ true → is_name_char c ≡ true
unfolding is_name_start is_name_char
start_is_name_char c h = or_left (in_rows name_start_rows c) (in_rows name_more_rows c) h

pub name_char_is_char : (c : ℕ) → is_name_char c ≡ true → is_char c ≡ true
unfolding is_char is_name_char
name_char_is_char c h =
    ⊎_elim (λ start. within_all name_start_rows char_rows c refl start) (λ more. within_all name_more_rows char_rows c refl more)
    (or_cases (in_rows name_start_rows c) (in_rows name_more_rows c) h)

pub space_is_char : (c : ℕ) → is_space c ≡ true → is_char c ≡ true
unfolding is_char is_space
space_is_char c h = within_all space_rows char_rows c refl h

pub pubid_char_is_char : (c : ℕ) → is_pubid_char c ≡ true → is_char c ≡ true
unfolding is_char is_pubid_char
pubid_char_is_char c h = within_all pubid_rows char_rows c refl h

-- ---- words

all_chars : (w : List ℕ) → list_all is_name_char w ≡ true → are_chars w ≡ true
all_chars [] h = refl
all_chars (c ∷ w) h =
    let p = and_parts (is_name_char c) (list_all is_name_char w) h in
    and_from (is_char c) (are_chars w) (name_char_is_char c p.0) (all_chars w p.1)

-- a Name is of name characters
pub name_of_name_chars : (w : List ℕ) → is_name w ≡ true → list_all is_name_char w ≡ true
name_of_name_chars [] h = absurd (both_ways false refl h)
name_of_name_chars (c ∷ w) h =
    let p = and_parts (is_name_start c) (list_all is_name_char w) h in
    and_from (is_name_char c) (list_all is_name_char w) (start_is_name_char c p.0) p.1

-- a Name is of Chars
pub name_of_chars : (w : List ℕ) → is_name w ≡ true → are_chars w ≡ true
name_of_chars w h = all_chars w (name_of_name_chars w h)

-- an Nmtoken is of Chars
pub nmtoken_of_chars : (w : List ℕ) → is_nmtoken w ≡ true → are_chars w ≡ true
nmtoken_of_chars [] h = absurd (both_ways false refl h)
nmtoken_of_chars (c ∷ w) h = all_chars (c ∷ w) h
