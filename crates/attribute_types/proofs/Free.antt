-- The first of `a`, `aa` and so on that is not in a list.
use Rattle.std.proofs.Common.{◌≡◌, ◌∙◌, ℕ, zero, suc, ◌+◌, ◌≤◌, Bool, true, false, cond, ◌||◌, ◌&&◌, List, [], ◌∷◌, ◌++◌, length, refl, sym, ap, subst, bytes_eq, leb, arith, length-append}
use Rattle.std.specs.List.{list_all}
use Rattle.std.proofs.lemmas.Bool.{both_ways, and_parts, and_from, leb-false, le-leb, lt-leb}
use Rattle.std.proofs.lemmas.List.Folds.{list_all-append}
use Rattle.jats_chars.specs.Classes.{is_name_start, is_name_char}
use Rattle.jats_chars.specs.Names.{is_name}
use Rattle.attribute_types.specs.Classes.{among}
use Rattle.attribute_types.specs.Table.{free_from, free_of}
use Rattle.attribute_types.proofs.TextTests.{on_test, bytes_same}

-- how many texts of the list are at least this long
abbrev long : ℕ → List (List ℕ) → ℕ
long k [] = 0
long k (x ∷ xs) = cond (leb k (length x)) 1 0 + long k xs

long-all : (k : ℕ) (xs : List (List ℕ)) → long k xs ≤ length xs
long-all k [] = omega arith
long-all k (x ∷ xs) =
    let h = long-all k xs in
    let P : Bool → Type 0 = λ b. cond b 1 0 + long k xs ≤ suc (length xs) in
    on_test P (leb k (length x)) (λ e. omega (arith, h)) (λ e. omega (arith, h))

fewer_one : (k n : ℕ) → cond (leb (k + 1) n) 1 0 ≤ cond (leb k n) 1 0
fewer_one k n =
    let P : Bool → Type 0 = λ b. cond (leb (k + 1) n) 1 0 ≤ cond b 1 0 in
    let Q : Bool → Type 0 = λ b. cond b 1 0 ≤ 1 in
    let R : Bool → Type 0 = λ b. cond b 1 0 ≤ 0 in
    on_test P (leb k n)
    (λ e. on_test Q (leb (k + 1) n) (λ f. omega arith) (λ f. omega arith))
    (λ e. subst R (sym (lt-leb (k + 1) n (let h = leb-false k n e in omega (arith, h)))) (omega arith))

fewer : (k : ℕ) (xs : List (List ℕ)) → long (k + 1) xs ≤ long k xs
fewer k [] = omega arith
fewer k (x ∷ xs) = let h = fewer k xs in let f = fewer_one k (length x) in omega (arith, h, f)

own_long : (n : ℕ) → leb n n ≡ true
own_long n = le-leb n n (omega arith)

own_longer : (n : ℕ) → leb (n + 1) n ≡ false
own_longer n = lt-leb (n + 1) n (omega arith)

-- each text of the list is one that is as long as itself, and no longer
one_less : (t : List ℕ) (xs : List (List ℕ)) → among xs t ≡ true → suc (long (length t + 1) xs) ≤ long (length t) xs
one_less t [] at = absurd (both_ways false refl at)
one_less t (x ∷ xs) at =
    let Q : Bool → Type 0 = λ b. (b || among xs t) ≡ true → suc (long (length t + 1) (x ∷ xs)) ≤ long (length t) (x ∷ xs) in
    let S : List ℕ → Type 0 = λ y. suc (cond (leb (length t + 1) (length y)) 1 0 + long (length t + 1) xs) ≤ cond (leb (length t) (length y)) 1 0 + long (length t) xs in
    let h = fewer (length t) xs in
    let A : Bool → Type 0 = λ b. suc (cond (leb (length t + 1) (length t)) 1 0 + long (length t + 1) xs) ≤ cond b 1 0 + long (length t) xs in
    let B : Bool → Type 0 = λ b. suc (cond b 1 0 + long (length t + 1) xs) ≤ 1 + long (length t) xs in
    on_test Q (bytes_eq t x)
    (λ same at. subst S (bytes_same t x same) (subst A (sym (own_long (length t))) (subst B (sym (own_longer (length t))) (omega (arith, h)))))
    (λ other at. let f = fewer_one (length t) (length x) in let g = one_less t xs at in omega (arith, f, g))
    at

length_pushed : (t : List ℕ) → length (t ++ 0x61 ∷ []) ≡ length t + 1
length_pushed t = omega (arith, length-append t (0x61 ∷ []))

free_from_out : (n : ℕ) (t : List ℕ) (xs : List (List ℕ)) → long (length t) xs ≤ n → among xs (free_from n t xs) ≡ false
unfolding free_from
free_from_out zero t xs h =
    let Q : Bool → Type 0 = λ b. among xs t ≡ b → b ≡ false in
    on_test Q (among xs t) (λ e f. absurd (let g = one_less t xs f in omega (arith, g, h))) (λ e f. refl) refl
free_from_out (suc n) t xs h =
    let Q : Bool → Type 0 = λ b. among xs t ≡ b → among xs (cond b (free_from n (t ++ 0x61 ∷ []) xs) t) ≡ false in
    on_test Q (among xs t)
    (λ e f. free_from_out n (t ++ 0x61 ∷ []) xs (let g = one_less t xs f in let L : ℕ → Type 0 = λ k. long k xs ≤ n in subst L (sym (length_pushed t)) (omega (arith, g, h))))
    (λ e f. f)
    refl

pub free_of_out : (xs : List (List ℕ)) → among xs (free_of xs) ≡ false
free_of_out xs = free_from_out (length xs) (0x61 ∷ []) xs (long-all 1 xs)

-- ---- the steps of a search

pub free_from_end : (n : ℕ) (t : List ℕ) (xs : List (List ℕ)) → n ≡ 0 → free_from n t xs ≡ t
unfolding free_from
free_from_end zero t xs e = refl
free_from_end (suc n) t xs e = absurd (omega arith)

pub free_from_here : (n : ℕ) (t : List ℕ) (xs : List (List ℕ)) → among xs t ≡ false → free_from n t xs ≡ t
unfolding free_from
free_from_here zero t xs e = refl
free_from_here (suc n) t xs e = ap (λ b. cond b (free_from n (t ++ 0x61 ∷ []) xs) t) e

pub free_from_next : (n m : ℕ) (t : List ℕ) (xs : List (List ℕ)) → n ≡ suc m → among xs t ≡ true → free_from n t xs ≡ free_from m (t ++ 0x61 ∷ []) xs
unfolding free_from
free_from_next zero m t xs e h = absurd (omega arith)
free_from_next (suc n) m t xs e h =
    let same : n ≡ m = omega arith in
    ap (λ b. cond b (free_from n (t ++ 0x61 ∷ []) xs) t) h ∙ ap (λ k. free_from k (t ++ 0x61 ∷ []) xs) same

letter_starts : is_name_start 0x61 ≡ true
unfolding is_name_start
letter_starts = refl

letter_is_char : is_name_char 0x61 ≡ true
unfolding is_name_char
letter_is_char = refl

name_pushed : (t : List ℕ) → is_name t ≡ true → is_name (t ++ 0x61 ∷ []) ≡ true
name_pushed [] h = absurd (both_ways false refl h)
name_pushed (c ∷ cs) h =
    and_from (is_name_start c) (list_all is_name_char (cs ++ 0x61 ∷ []))
    (and_parts (is_name_start c) (list_all is_name_char cs) h).0
    (list_all-append is_name_char cs (0x61 ∷ []) ∙ and_from (list_all is_name_char cs) (is_name_char 0x61 && true) (and_parts (is_name_start c) (list_all is_name_char cs) h).1 (and_from (is_name_char 0x61) true letter_is_char refl))

free_from_name : (n : ℕ) (t : List ℕ) (xs : List (List ℕ)) → is_name t ≡ true → is_name (free_from n t xs) ≡ true
unfolding free_from
free_from_name zero t xs h = h
free_from_name (suc n) t xs h =
    let Q : Bool → Type 0 = λ b. is_name (cond b (free_from n (t ++ 0x61 ∷ []) xs) t) ≡ true in
    on_test Q (among xs t) (λ e. free_from_name n (t ++ 0x61 ∷ []) xs (name_pushed t h)) (λ e. h)

pub free_of_name : (xs : List (List ℕ)) → is_name (free_of xs) ≡ true
free_of_name xs = free_from_name (length xs) (0x61 ∷ []) xs (and_from (is_name_start 0x61) true letter_starts refl)
