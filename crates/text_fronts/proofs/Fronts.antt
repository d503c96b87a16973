-- Fronts of texts: white space, words and what stops them.
use Rattle.std.proofs.Common.{◌≡◌, List, [], ◌∷◌, ◌++◌, ℕ, suc, ◌+◌, ◌<◌, length, length-append, take, drop, refl, sym, ap, ◌∙◌, subst, arith, Bool, true, false, true≢false, ◌⊎◌, inl, inr, bytes_eq, Option, Some, None}
use Rattle.std.specs.Prelude.{◌||◌, ◌&&◌, not, nat_le, nat_lt, position, if◌then◌else◌, option_and_then, option_map}
use Rattle.std.specs.List.{list_all, prefix_len}
use Rattle.std.proofs.lemmas.List.{take-append-drop}
use Rattle.std.proofs.lemmas.Slice.Eq.{bytes_eq-Decides}
use Rattle.std.proofs.lemmas.Bool.{ltb-true, lt-ltb}
use Rattle.std.proofs.lemmas.Bool.Decides.{eqb_tells}
use Rattle.jats_chars.specs.Classes.{is_space, is_name_start, is_name_char, in_rows, name_more_rows}
use Rattle.jats_chars.specs.Names.{is_name, is_nmtoken}
use Rattle.jats_chars.proofs.Rows.{row_bounds}
use Rattle.text_fronts.specs.Fronts.{skipped, word, after_word}

pub and-left : (a b : Bool) → (a && b) ≡ true → a ≡ true
and-left true b h = refl
and-left false b h = h

pub and-right : (a b : Bool) → (a && b) ≡ true → b ≡ true
and-right true b h = h
and-right false b h = absurd (true≢false (sym h))

or-cases : (a b : Bool) → (a || b) ≡ true → (a ≡ true) ⊎ (b ≡ true)
or-cases true b h = inl refl
or-cases false b h = inr h

no-true : (a : Bool) → (a ≡ true → ⊥) → a ≡ false
no-true true h = absurd (h refl)
no-true false h = refl

pub is-not : (a : Bool) → a ≡ false → not a ≡ true
is-not true h = absurd (true≢false h)
is-not false h = refl

not-is : (a : Bool) → not a ≡ true → a ≡ false
not-is true h = absurd (true≢false (sym h))
not-is false h = refl

pub same-list : (xs ys : List ℕ) → bytes_eq xs ys ≡ true → xs ≡ ys
same-list xs ys h = (bytes_eq-Decides xs ys).0 h

-- ---- inversions

pub and_then_some : {A B : Type 0} (f : A → Option B) (o : Option A) (y : B) → option_and_then f o ≡ Some y → (x : A) × (o ≡ Some x) × (f x ≡ Some y)
and_then_some f None y e = cc
and_then_some f (Some x) y e = (x, refl, e)

pub map_some : {A B : Type 0} (f : A → B) (o : Option A) (y : B) → option_map f o ≡ Some y → (x : A) × (o ≡ Some x) × (f x ≡ y)
map_some f None y e = cc
map_some f (Some x) y e = (x, refl, (cc))

pub if_some : {A : Type 0} (b : Bool) (o : Option A) (y : A) → (if b then o else None) ≡ Some y → (b ≡ true) × (o ≡ Some y)
if_some true o y e = (refl, e)
if_some false o y e = cc

-- one of two branches
pub choose : {A : Type 0} (P : Type 0) (b : Bool) (x y : Option A) (z : A) → (if b then x else y) ≡ Some z → (b ≡ true → x ≡ Some z → P) → (b ≡ false → y ≡ Some z → P) → P
choose P true x y z e f g = f refl e
choose P false x y z e f g = g refl e

-- ---- characters

-- white space is one of four characters
space_is : (P : ℕ → Type 0) → P 9 → P 10 → P 13 → P 32 → (c : ℕ) → is_space c ≡ true → P c
unfolding is_space
space_is P p9 p10 p13 p32 c h = elim (or-cases (nat_le 9 c && nat_le c 10) _ h) [
  | inl a ↦ (let r = row_bounds c 9 10 a in elim (eqb_tells c 9) [
    | inl q ↦ subst P (sym q.1) p9
    | inr q ↦ (let e : c ≡ 10 = omega (arith, r.0, r.1, q.1) in subst P (sym e) p10)
  ])
  | inr a ↦ elim (or-cases (nat_le 13 c && nat_le c 13) _ a) [
    | inl b ↦ (let r = row_bounds c 13 13 b in let e : c ≡ 13 = omega (arith, r.0, r.1) in subst P (sym e) p13)
    | inr b ↦ elim (or-cases (nat_le 32 c && nat_le c 32) _ b) [
      | inl d ↦ (let r = row_bounds c 32 32 d in let e : c ≡ 32 = omega (arith, r.0, r.1) in subst P (sym e) p32)
      | inr d ↦ absurd (true≢false (sym d))
    ]
  ]
]

-- white space is no name character
pub space_ends : (c : ℕ) → is_space c ≡ true → is_name_char c ≡ false
unfolding is_name_char
space_ends = space_is (λ c. is_name_char c ≡ false) refl refl refl refl

char_plain : (c : ℕ) → is_name_char c ≡ true → is_space c ≡ false
char_plain c h = no-true (is_space c) (λ s. true≢false (sym h ∙ space_ends c s))

start_char : (c : ℕ) → is_name_start c ≡ true → is_name_char c ≡ true
unfolding is_name_char is_name_start
start_char c h = ap (λ b. b || in_rows name_more_rows c) h

pub name_chars : (w : List ℕ) → is_name w ≡ true → list_all is_name_char w ≡ true
name_chars [] h = refl
name_chars (c ∷ w) h =
    ap (λ b. b && list_all is_name_char w) (start_char c (and-left (is_name_start c) (list_all is_name_char w) h))
    ∙ and-right (is_name_start c) (list_all is_name_char w) h

pub nmtoken_chars : (w : List ℕ) → is_nmtoken w ≡ true → list_all is_name_char w ≡ true
nmtoken_chars [] h = refl
nmtoken_chars (c ∷ w) h = h

-- ---- where a front stops

abbrev pub stops : (ℕ → Bool) → List ℕ → Bool
stops p [] = true
stops p (c ∷ r) = not (p c)

pub word_plain : (w r : List ℕ) → is_nmtoken w ≡ true → stops is_space (w ++ r) ≡ true
word_plain [] r h = absurd (true≢false (sym h))
word_plain (c ∷ w) r h = is-not (is_space c) (char_plain c (and-left (is_name_char c) (list_all is_name_char w) h))

pub name_plain : (w r : List ℕ) → is_name w ≡ true → stops is_space (w ++ r) ≡ true
name_plain [] r h = absurd (true≢false (sym h))
name_plain (c ∷ w) r h = is-not (is_space c) (char_plain c (start_char c (and-left (is_name_start c) (list_all is_name_char w) h)))

-- behind white space, a name does not go on
pub blank_ends : (a r : List ℕ) → list_all is_space a ≡ true → stops is_name_char r ≡ true → stops is_name_char (a ++ r) ≡ true
blank_ends [] r h s = s
blank_ends (c ∷ a) r h s = is-not (is_name_char c) (space_ends c (and-left (is_space c) (list_all is_space a) h))

module _ (p : ℕ → Bool) where
  front-length : (a r : List ℕ) → list_all p a ≡ true → stops p r ≡ true → prefix_len p (a ++ r) ≡ length a
  front-length [] [] h s = refl
  front-length [] (c ∷ r) h s = ap (λ b. if b then 1 + prefix_len p r else 0) (not-is (p c) s)
  front-length (c ∷ a) r h s =
      ap (λ b. if b then 1 + prefix_len p (a ++ r) else 0) (and-left (p c) (list_all p a) h)
      ∙ (let i = front-length a r (and-right (p c) (list_all p a) h) s in let q : 1 + prefix_len p (a ++ r) ≡ suc (length a) = omega (arith, i) in q)

  front-passes : (t : List ℕ) → list_all p (take (prefix_len p t) t) ≡ true
  front-passes [] = refl
  front-passes (c ∷ t) = go (front-passes t) (p c) refl
    where
      go : list_all p (take (prefix_len p t) t) ≡ true → (b : Bool) → p c ≡ b → list_all p (take (if b then 1 + prefix_len p t else 0) (c ∷ t)) ≡ true
      go i true q =
          let n : 1 + prefix_len p t ≡ suc (prefix_len p t) = omega arith in
          ap (λ k. list_all p (take k (c ∷ t))) n ∙ ap (λ b. b && list_all p (take (prefix_len p t) t)) q ∙ i
      go i false q = refl

take-front : (w r : List ℕ) → take (length w) (w ++ r) ≡ w
take-front [] r = refl
take-front (c ∷ w) r = ap (λ k. c ∷ k) (take-front w r)

drop-front : (w r : List ℕ) → drop (length w) (w ++ r) ≡ r
drop-front [] r = refl
drop-front (c ∷ w) r = drop-front w r

pub skipped_over : (a r : List ℕ) → list_all is_space a ≡ true → stops is_space r ≡ true → skipped (a ++ r) ≡ r
unfolding skipped
skipped_over a r h s = ap (λ n. drop n (a ++ r)) (front-length is_space a r h s) ∙ drop-front a r

pub word_at : (w r : List ℕ) → list_all is_name_char w ≡ true → stops is_name_char r ≡ true → word (w ++ r) ≡ w
unfolding word
word_at w r h s = ap (λ n. take n (w ++ r)) (front-length is_name_char w r h s) ∙ take-front w r

pub after_at : (w r : List ℕ) → list_all is_name_char w ≡ true → stops is_name_char r ≡ true → after_word (w ++ r) ≡ r
unfolding after_word
after_at w r h s = ap (λ n. drop n (w ++ r)) (front-length is_name_char w r h s) ∙ drop-front w r

-- a text is its word and what is behind it
pub word_split : (t : List ℕ) → t ≡ word t ++ after_word t
unfolding word after_word
word_split t = sym (take-append-drop (prefix_len is_name_char t) t)

-- a text is white space and what is behind it
pub skipped_split : (t : List ℕ) → (a : List ℕ) × (list_all is_space a ≡ true) × (t ≡ a ++ skipped t)
unfolding skipped
skipped_split t = (take (prefix_len is_space t) t, front-passes is_space t, sym (take-append-drop (prefix_len is_space t) t))

-- where the first of its kind stands
module _ (p : ℕ → Bool) where
  abbrev Stands : List ℕ → ℕ → Type 0
  Stands t k = (d : ℕ) × (p d ≡ true) × (t ≡ take k t ++ (d ∷ drop (k + 1) t))

  stands : (t : List ℕ) → prefix_len (λ c. not (p c)) t < length t → Stands t (prefix_len (λ c. not (p c)) t)
  stands [] h = absurd (omega arith)
  stands (c ∷ t) h = go (stands t) (p c) refl h
    where
      go : (prefix_len (λ c. not (p c)) t < length t → Stands t (prefix_len (λ c. not (p c)) t)) → (b : Bool) → p c ≡ b
          → (if not b then 1 + prefix_len (λ c. not (p c)) t else 0) < length (c ∷ t) → Stands (c ∷ t) (if not b then 1 + prefix_len (λ c. not (p c)) t else 0)
      go i true q l = (c, q, refl)
      go i false q l =
          let k = prefix_len (λ c. not (p c)) t in
          let n : 1 + k ≡ suc k = omega arith in
          let m : suc k + 1 ≡ suc (k + 1) = omega arith in
          let j = i (omega (arith, l)) in
          subst (Stands (c ∷ t)) (sym n) (j.0, j.1, ap (λ x. c ∷ x) j.2 ∙ ap (λ x. c ∷ (take k t ++ (j.0 ∷ drop x (c ∷ t)))) (sym m))

  pub position_sound : (t : List ℕ) (k : ℕ) → position p t ≡ Some k
      → ((d : ℕ) × (p d ≡ true) × (t ≡ take k t ++ (d ∷ drop (k + 1) t))) × (list_all (λ c. not (p c)) (take k t) ≡ true)
  position_sound t k e =
      let n = prefix_len (λ c. not (p c)) t in
      let h = if_some (nat_lt n (length t)) (Some n) k e in
      let is : n ≡ k = (let f = h.1 in cc) in
      subst (λ k. ((d : ℕ) × (p d ≡ true) × (t ≡ take k t ++ (d ∷ drop (k + 1) t))) × (list_all (λ c. not (p c)) (take k t) ≡ true)) is
      (stands t (ltb-true n (length t) h.0), front-passes (λ c. not (p c)) t)

  passed-over : (a : List ℕ) → list_all (λ c. not (p c)) a ≡ true → (d : ℕ) (r : List ℕ) → p d ≡ true → prefix_len (λ c. not (p c)) (a ++ (d ∷ r)) ≡ length a
  passed-over a h d r e = front-length (λ c. not (p c)) a (d ∷ r) h (ap (λ b. not (not b)) e)

  pub position_at : (a : List ℕ) (d : ℕ) (r : List ℕ) → list_all (λ c. not (p c)) a ≡ true → p d ≡ true → position p (a ++ (d ∷ r)) ≡ Some (length a)
  position_at a d r h e =
      let n = prefix_len (λ c. not (p c)) (a ++ (d ∷ r)) in
      let is : n ≡ length a = passed-over a h d r e in
      let long : length (a ++ (d ∷ r)) ≡ length a + suc (length r) = length-append a (d ∷ r) in
      let less : nat_lt n (length (a ++ (d ∷ r))) ≡ true = lt-ltb n (length (a ++ (d ∷ r))) (omega (arith, is, long)) in
      ap (λ b. if b then Some n else None) less ∙ ap Some is

pub take_front : (w r : List ℕ) → take (length w) (w ++ r) ≡ w
take_front = take-front

pub drop_behind : (w : List ℕ) (d : ℕ) (r : List ℕ) → drop (length w + 1) (w ++ (d ∷ r)) ≡ r
drop_behind [] d r = refl
drop_behind (c ∷ w) d r =
    let m : suc (length w) + 1 ≡ suc (length w + 1) = omega arith in
    ap (λ k. drop k (c ∷ (w ++ (d ∷ r)))) m ∙ drop_behind w d r

all-suffix : (p : ℕ → Bool) (a b : List ℕ) → list_all p (a ++ b) ≡ true → list_all p b ≡ true
all-suffix p [] b h = h
all-suffix p (c ∷ a) b h = all-suffix p a b (and-right (p c) (list_all p (a ++ b)) h)

-- a text with a name in it is not white space alone
pub name_not_blank : (a w r : List ℕ) → is_name w ≡ true → list_all is_space (a ++ (w ++ r)) ≡ false
name_not_blank a [] r h = absurd (true≢false (sym h))
name_not_blank a (c ∷ w) r h =
    no-true (list_all is_space (a ++ (c ∷ (w ++ r))))
    (λ s. true≢false (sym (and-left (is_space c) (list_all is_space (w ++ r)) (all-suffix is_space a (c ∷ (w ++ r)) s))
    ∙ char_plain c (start_char c (and-left (is_name_start c) (list_all is_name_char w) h))))
