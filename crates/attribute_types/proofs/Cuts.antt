-- Words that are cut from the front of a value.
use Rattle.std.proofs.Common.{◌≡◌, ◌≢◌, ◌∙◌, ℕ, suc, ◌+◌, ◌<◌, ◌≤◌, Bool, true, false, cond, ◌&&◌, not, List, [], ◌∷◌, ◌++◌, take, drop, length, refl, sym, ap, subst, bytes_eq, eqb, ltb, arith, length-drop, append-nil, Some, None, unwrap_or, position}
use Rattle.std.specs.List.{position_or_len, prefix_len, join_with_byte}
use Rattle.std.proofs.lemmas.Bool.{eqb-true, ltb-false}
use Rattle.attribute_types.specs.Spacing.{words_in, collapsed, BeginsWord, tailed}
use Rattle.attribute_types.proofs.TextTests.{on_test, bytes_apart, bytes_own}
use Rattle.attribute_types.proofs.Words.{is_blank, words_in-space, words_in-nil, words_in-front}

one_more : (k : ℕ) → 1 + k ≡ suc k
one_more k = omega arith

abbrev pub is_other : ℕ → Bool
is_other c = not (is_blank c)

first_bound : (p : ℕ → Bool) (t : List ℕ) → prefix_len p t ≤ length t
first_bound p [] = omega arith
first_bound p (c ∷ cs) =
    let h = first_bound p cs in
    let Q : Bool → Type 0 = λ b. cond b (1 + prefix_len p cs) 0 ≤ suc (length cs) in
    on_test Q (p c) (λ e. omega (arith, h)) (λ e. omega arith)

-- the first place that passes, or the length
pub first_or_len : (p : ℕ → Bool) (t : List ℕ) → unwrap_or (position p t) (length t) ≡ position_or_len p t
first_or_len p t =
    let n : ℕ = position_or_len p t in
    let Q : Bool → Type 0 = λ b. unwrap_or (cond b (Some (position_or_len p t)) None) (length t) ≡ position_or_len p t in
    on_test Q (ltb (position_or_len p t) (length t)) (λ e. refl) (λ e. let low = ltb-false (position_or_len p t) (length t) e in let high = first_bound (λ c. not (p c)) t in omega (arith, low, high))

skipped_words : (t : List ℕ) → words_in (drop (position_or_len is_other t) t) ≡ words_in t
skipped_words [] = refl
skipped_words (c ∷ cs) =
    let Q : Bool → Type 0 = λ b. words_in (drop (cond (not (not b)) (1 + position_or_len is_other cs) 0) (c ∷ cs)) ≡ words_in (c ∷ cs) in
    let R : ℕ → Type 0 = λ k. words_in (drop k (c ∷ cs)) ≡ words_in (c ∷ cs) in
    let S : ℕ → Type 0 = λ d. words_in cs ≡ words_in (d ∷ cs) in
    on_test Q (is_blank c)
    (λ e. subst R (sym (one_more (position_or_len is_other cs))) (skipped_words cs ∙ subst S (sym (eqb-true c 0x20 e)) (sym (words_in-space cs))))
    (λ e. refl)

skipped_begins : (t : List ℕ) → BeginsWord (drop (position_or_len is_other t) t)
skipped_begins [] = tt
skipped_begins (c ∷ cs) =
    let Q : Bool → Type 0 = λ b. is_blank c ≡ b → BeginsWord (drop (cond (not (not b)) (1 + position_or_len is_other cs) 0) (c ∷ cs)) in
    let R : ℕ → Type 0 = λ k. BeginsWord (drop k (c ∷ cs)) in
    on_test Q (is_blank c)
    (λ e f. subst R (sym (one_more (position_or_len is_other cs))) (skipped_begins cs))
    (λ e f. f)
    refl

pub from_word_words : (t : List ℕ) (k : ℕ) → k ≡ unwrap_or (position is_other t) (length t) → words_in (drop k t) ≡ words_in t
from_word_words t k e = let R : ℕ → Type 0 = λ n. words_in (drop n t) ≡ words_in t in subst R (sym (e ∙ first_or_len is_other t)) (skipped_words t)

pub from_word_begins : (t : List ℕ) (k : ℕ) → k ≡ unwrap_or (position is_other t) (length t) → BeginsWord (drop k t)
from_word_begins t k e = let R : ℕ → Type 0 = λ n. BeginsWord (drop n t) in subst R (sym (e ∙ first_or_len is_other t)) (skipped_begins t)

pub no_words : (t : List ℕ) → length t ≡ 0 → words_in t ≡ []
no_words [] e = words_in-nil
no_words (c ∷ cs) e = absurd (omega arith)

first_told : (t : List ℕ) (n : ℕ) → BeginsWord t → (length t ≡ 0 → ⊥) → n ≡ unwrap_or (position is_blank t) (length t) → (words_in t ≡ take n t ∷ words_in (drop n t)) × (length (drop n t) < length t)
first_told [] n b some e = absurd (some refl)
first_told (c ∷ cs) n b some e =
    let is : n ≡ position_or_len is_blank (c ∷ cs) = e ∙ first_or_len is_blank (c ∷ cs) in
    let R : ℕ → Type 0 = λ k. words_in (c ∷ cs) ≡ take k (c ∷ cs) ∷ words_in (drop k (c ∷ cs)) in
    let big : n ≡ suc (position_or_len is_blank cs) = is ∙ (ap (λ x. cond (not x) (1 + position_or_len is_blank cs) 0) b ∙ one_more (position_or_len is_blank cs)) in
    (subst R (sym is) (words_in-front c cs b), omega (arith, length-drop n (c ∷ cs), big))

pub first_cut : (t : List ℕ) (n : ℕ) (w rest : List ℕ) → BeginsWord t → (length t ≡ 0 → ⊥) → n ≡ unwrap_or (position is_blank t) (length t) → w ≡ take n t → rest ≡ drop n t → (words_in t ≡ w ∷ words_in rest) × (length rest < length t)
first_cut t n w rest b some e front back =
    let told = first_told t n b some e in
    let R : List ℕ → Type 0 = λ x. length x < length t in
    (told.0 ∙ (ap (λ x. x ∷ words_in (drop n t)) (sym front) ∙ ap (λ (y : List ℕ). w ∷ words_in y) (sym back)), subst R (sym back) told.1)

-- ---- comparing

pub eq_cut : (a x y : List ℕ) → bytes_eq (a ++ x) (a ++ y) ≡ bytes_eq x y
eq_cut [] x y = refl
eq_cut (c ∷ cs) x y = ap (λ b. b && bytes_eq (cs ++ x) (cs ++ y)) (own c) ∙ eq_cut cs x y
  where
    own : (c : ℕ) → eqb c c ≡ true
    own c = let h : (bytes_eq (c ∷ []) (c ∷ [])) ≡ true = bytes_own (c ∷ []) in both (eqb c c) h
      where
        both : (b : Bool) → (b && true) ≡ true → b ≡ true
        both true e = refl
        both false e = e

pub join_tailed : (w : List ℕ) (ws : List (List ℕ)) → join_with_byte 0x20 (w ∷ ws) ≡ w ++ tailed ws
join_tailed w [] = sym (append-nil w)
join_tailed w (x ∷ ws) = ap (λ t. w ++ 0x20 ∷ t) (join_tailed x ws)

-- no text that is not so begun is it
pub unlike : (a x t : List ℕ) → ((rest : List ℕ) → t ≢ a ++ rest) → bytes_eq (a ++ x) t ≡ false
unlike a x t apart = bytes_apart (a ++ x) t (λ e. apart x (sym e))

pub goes_on_step : (ws more : List (List ℕ)) (w left after : List ℕ) → ws ≡ w ∷ more → left ≡ 0x20 ∷ (w ++ after) → bytes_eq (tailed ws) left ≡ bytes_eq (tailed more) after
goes_on_step ws more w left after e f =
    ap (λ x. bytes_eq (tailed x) left) e ∙ (ap (λ (t : List ℕ). bytes_eq (0x20 ∷ (w ++ tailed more)) t) f ∙ eq_cut (0x20 ∷ w) (tailed more) after)

pub collapsed-first : (v w : List ℕ) (ws : List (List ℕ)) → words_in v ≡ w ∷ ws → collapsed v ≡ w ++ tailed ws
collapsed-first v w ws e = ap (join_with_byte 0x20) e ∙ join_tailed w ws
