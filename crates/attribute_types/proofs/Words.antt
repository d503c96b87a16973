-- Words of values.
use Rattle.std.proofs.Common.{◌≡◌, ◌∙◌, ℕ, suc, ◌+◌, Bool, true, false, cond, ◌&&◌, not, List, [], ◌∷◌, ◌++◌, take, drop, refl, sym, ap, subst, filter, eqb, arith}
use Rattle.std.specs.List.{list_all, slice_split, onto_first, join_with_byte, position_or_len}
use Rattle.std.proofs.lemmas.Bool.{both_ways, and_parts, and_from, cond-false, or_left, eqb-true}
use Rattle.jats_chars.specs.Classes.{is_name_start, is_name_char, in_rows, name_start_rows}
use Rattle.jats_chars.specs.Names.{is_name, is_nmtoken, words}
use Rattle.attribute_types.specs.Spacing.{is_filled, words_in}
use Rattle.attribute_types.proofs.TextTests.{on_test}

abbrev pub is_blank : ℕ → Bool
is_blank c = eqb c 0x20

-- whether no space is in the text
abbrev pub is_word : List ℕ → Bool
is_word text = list_all (λ c. not (is_blank c)) text

-- ---- cutting

one_more : (k : ℕ) → 1 + k ≡ suc k
one_more k = omega arith

-- what follows the first part
abbrev after_parts : List ℕ → List (List ℕ)
after_parts [] = []
after_parts (c ∷ cs) = slice_split is_blank cs

split_front : (t : List ℕ) → slice_split is_blank t ≡ take (position_or_len is_blank t) t ∷ after_parts (drop (position_or_len is_blank t) t)
split_front [] = refl
split_front (c ∷ cs) =
    let P : Bool → Type 0 = λ b. cond b ([] ∷ slice_split is_blank cs) (onto_first c (slice_split is_blank cs)) ≡ take (cond (not b) (1 + position_or_len is_blank cs) 0) (c ∷ cs) ∷ after_parts (drop (cond (not b) (1 + position_or_len is_blank cs) 0) (c ∷ cs)) in
    on_test P (is_blank c)
    (λ e. refl)
    (λ e. ap (onto_first c) (split_front cs) ∙ ap (λ k. take k (c ∷ cs) ∷ after_parts (drop k (c ∷ cs))) (sym (one_more (position_or_len is_blank cs))))

pub words_in-space : (t : List ℕ) → words_in (0x20 ∷ t) ≡ words_in t
unfolding words_in
words_in-space t = refl

pub words_in-nil : words_in [] ≡ []
unfolding words_in
words_in-nil = refl

after_words : (t : List ℕ) → filter is_filled (after_parts (drop (position_or_len is_blank t) t)) ≡ words_in (drop (position_or_len is_blank t) t)
unfolding words_in
after_words [] = refl
after_words (c ∷ cs) =
    let P : Bool → Type 0 = λ b. filter is_filled (after_parts (drop (cond (not b) (1 + position_or_len is_blank cs) 0) (c ∷ cs))) ≡ filter is_filled (slice_split is_blank (drop (cond (not b) (1 + position_or_len is_blank cs) 0) (c ∷ cs))) in
    let Q : ℕ → Type 0 = λ k. filter is_filled (after_parts (drop k (c ∷ cs))) ≡ filter is_filled (slice_split is_blank (drop k (c ∷ cs))) in
    on_test P (is_blank c)
    (λ e. sym (ap (λ b. filter is_filled (cond b ([] ∷ slice_split is_blank cs) (onto_first c (slice_split is_blank cs)))) e))
    (λ e. subst Q (sym (one_more (position_or_len is_blank cs))) (after_words cs))

-- the first word of a text that begins with it, and the words of the rest
pub words_in-front : (c : ℕ) (cs : List ℕ) → is_blank c ≡ false → words_in (c ∷ cs) ≡ take (position_or_len is_blank (c ∷ cs)) (c ∷ cs) ∷ words_in (drop (position_or_len is_blank (c ∷ cs)) (c ∷ cs))
unfolding words_in
words_in-front c cs off =
    ap (filter is_filled) (split_front (c ∷ cs))
    ∙ filled
    ∙ ap (λ ws. take (position_or_len is_blank (c ∷ cs)) (c ∷ cs) ∷ ws) (after_words (c ∷ cs))
  where
    P : ℕ → Type 0
    P k = filter is_filled (take k (c ∷ cs) ∷ after_parts (drop k (c ∷ cs))) ≡ take k (c ∷ cs) ∷ filter is_filled (after_parts (drop k (c ∷ cs)))

    long : position_or_len is_blank (c ∷ cs) ≡ suc (position_or_len is_blank cs)
    long = ap (λ b. cond (not b) (1 + position_or_len is_blank cs) 0) off ∙ one_more (position_or_len is_blank cs)

    filled : P (position_or_len is_blank (c ∷ cs))
    filled = subst P (sym long) refl

-- ---- parts without spaces

onto_word : (c : ℕ) (ps : List (List ℕ)) → not (is_blank c) ≡ true → list_all is_word ps ≡ true → list_all is_word (onto_first c ps) ≡ true
onto_word c [] one all = and_from (is_word (c ∷ [])) true (and_from (not (is_blank c)) true one refl) refl
onto_word c (p ∷ ps) one all = and_from (is_word (c ∷ p)) (list_all is_word ps) (and_from (not (is_blank c)) (is_word p) one (and_parts (is_word p) (list_all is_word ps) all).0) (and_parts (is_word p) (list_all is_word ps) all).1

split_words : (t : List ℕ) → list_all is_word (slice_split is_blank t) ≡ true
split_words [] = refl
split_words (c ∷ cs) =
    let P : Bool → Type 0 = λ b. list_all is_word (cond b ([] ∷ slice_split is_blank cs) (onto_first c (slice_split is_blank cs))) ≡ true in
    on_test P (is_blank c)
    (λ e. split_words cs)
    (λ e. onto_word c (slice_split is_blank cs) (ap not e) (split_words cs))

all_kept : (q p : List ℕ → Bool) (xs : List (List ℕ)) → list_all p xs ≡ true → list_all p (filter q xs) ≡ true
all_kept q p [] h = refl
all_kept q p (x ∷ xs) h =
    let P : Bool → Type 0 = λ b. list_all p (cond b (x ∷ filter q xs) (filter q xs)) ≡ true in
    on_test P (q x)
    (λ e. and_from (p x) (list_all p (filter q xs)) (and_parts (p x) (list_all p xs) h).0 (all_kept q p xs (and_parts (p x) (list_all p xs) h).1))
    (λ e. all_kept q p xs (and_parts (p x) (list_all p xs) h).1)

all_pass : (q : List ℕ → Bool) (xs : List (List ℕ)) → list_all q (filter q xs) ≡ true
all_pass q [] = refl
all_pass q (x ∷ xs) =
    let P : Bool → Type 0 = λ b. list_all q (cond b (x ∷ filter q xs) (filter q xs)) ≡ true in
    on_test P (q x)
    (λ e. and_from (q x) (list_all q (filter q xs)) e (all_pass q xs))
    (λ e. all_pass q xs)

pub words_in-words : (t : List ℕ) → list_all is_word (words_in t) ≡ true
unfolding words_in
words_in-words t = all_kept is_filled is_word (slice_split is_blank t) (split_words t)

pub words_in-filled : (t : List ℕ) → list_all is_filled (words_in t) ≡ true
unfolding words_in
words_in-filled t = all_pass is_filled (slice_split is_blank t)

-- ---- joining

split_word : (w : List ℕ) → is_word w ≡ true → slice_split is_blank w ≡ w ∷ []
split_word [] h = refl
split_word (c ∷ cs) h =
    let here = (and_parts (not (is_blank c)) (is_word cs) h).0 in
    let rest = (and_parts (not (is_blank c)) (is_word cs) h).1 in
    cond-false (is_blank c) ([] ∷ slice_split is_blank cs) (onto_first c (slice_split is_blank cs)) (no (is_blank c) here) ∙ ap (onto_first c) (split_word cs rest)
  where
    no : (b : Bool) → not b ≡ true → b ≡ false
    no true e = sym e
    no false e = refl

split_word-then : (w t : List ℕ) → is_word w ≡ true → slice_split is_blank (w ++ 0x20 ∷ t) ≡ w ∷ slice_split is_blank t
split_word-then [] t h = refl
split_word-then (c ∷ cs) t h =
    let here = (and_parts (not (is_blank c)) (is_word cs) h).0 in
    let rest = (and_parts (not (is_blank c)) (is_word cs) h).1 in
    cond-false (is_blank c) ([] ∷ slice_split is_blank (cs ++ 0x20 ∷ t)) (onto_first c (slice_split is_blank (cs ++ 0x20 ∷ t))) (no (is_blank c) here) ∙ ap (onto_first c) (split_word-then cs t rest)
  where
    no : (b : Bool) → not b ≡ true → b ≡ false
    no true e = sym e
    no false e = refl

-- words that are joined are cut again
pub words-join : (w : List ℕ) (ws : List (List ℕ)) → list_all is_word (w ∷ ws) ≡ true → words (join_with_byte 0x20 (w ∷ ws)) ≡ w ∷ ws
words-join w [] h = split_word w (and_parts (is_word w) true h).0
words-join w (x ∷ ws) h =
    split_word-then w (join_with_byte 0x20 (x ∷ ws)) (and_parts (is_word w) (list_all is_word (x ∷ ws)) h).0
    ∙ ap (λ rest. w ∷ rest) (words-join x ws (and_parts (is_word w) (list_all is_word (x ∷ ws)) h).1)

-- ---- names

pub blank_no_name : is_name_char 0x20 ≡ false
unfolding is_name_char
blank_no_name = refl

blank_no_start : is_name_start 0x20 ≡ false
unfolding is_name_start
blank_no_start = refl

pub start_is_char : (c : ℕ) → is_name_start c ≡ true → is_name_char c ≡ true
unfolding is_name_start is_name_char
start_is_char c h = or_left (in_rows name_start_rows c) _ h

char_no_blank : (c : ℕ) → is_name_char c ≡ true → is_blank c ≡ false
char_no_blank c h = by (is_blank c) refl
  where
    by : (b : Bool) → is_blank c ≡ b → is_blank c ≡ false
    by true e = absurd (both_ways (is_name_char c) (subst (λ (d : ℕ). is_name_char d ≡ false) (sym (eqb-true c 0x20 e)) blank_no_name) h)
    by false e = e

pub chars_word : (t : List ℕ) → list_all is_name_char t ≡ true → is_word t ≡ true
chars_word [] h = refl
chars_word (c ∷ cs) h =
    and_from (not (is_blank c)) (is_word cs) (ap not (char_no_blank c (and_parts (is_name_char c) (list_all is_name_char cs) h).0)) (chars_word cs (and_parts (is_name_char c) (list_all is_name_char cs) h).1)

pub name_is_nmtoken : (t : List ℕ) → is_name t ≡ true → is_nmtoken t ≡ true
name_is_nmtoken [] h = h
name_is_nmtoken (c ∷ cs) h =
    and_from (is_name_char c) (list_all is_name_char cs) (start_is_char c (and_parts (is_name_start c) (list_all is_name_char cs) h).0) (and_parts (is_name_start c) (list_all is_name_char cs) h).1

pub nmtoken_word : (t : List ℕ) → is_nmtoken t ≡ true → is_word t ≡ true
nmtoken_word [] h = refl
nmtoken_word (c ∷ cs) h = chars_word (c ∷ cs) h

pub nmtoken_filled : (t : List ℕ) → is_nmtoken t ≡ true → is_filled t ≡ true
nmtoken_filled [] h = h
nmtoken_filled (c ∷ cs) h = refl

-- a text with a space is no Nmtoken
spaced_chars : (a b : List ℕ) → list_all is_name_char (a ++ 0x20 ∷ b) ≡ false
spaced_chars [] b = ap (λ x. x && list_all is_name_char b) blank_no_name
spaced_chars (c ∷ cs) b =
    let P : Bool → Type 0 = λ x. (x && list_all is_name_char (cs ++ 0x20 ∷ b)) ≡ false in
    on_test P (is_name_char c) (λ e. spaced_chars cs b) (λ e. refl)

pub spaced_no_nmtoken : (a b : List ℕ) → is_nmtoken (a ++ 0x20 ∷ b) ≡ false
spaced_no_nmtoken [] b = spaced_chars [] b
spaced_no_nmtoken (c ∷ cs) b = spaced_chars (c ∷ cs) b

pub spaced_no_name : (a b : List ℕ) → is_name (a ++ 0x20 ∷ b) ≡ false
spaced_no_name [] b = ap (λ x. x && list_all is_name_char b) blank_no_start
spaced_no_name (c ∷ cs) b =
    let P : Bool → Type 0 = λ x. (x && list_all is_name_char (cs ++ 0x20 ∷ b)) ≡ false in
    on_test P (is_name_start c) (λ e. spaced_chars cs b) (λ e. refl)
