-- Characters that begin, end and part words.
use Rattle.std.proofs.Common.{◌≡◌, [], ◌∷◌, ℕ, refl, sym, ap, ◌∙◌, subst, arith, Bool, true, false, true≢false, ◌⊎◌, inl, inr}
use Rattle.std.specs.Prelude.{◌==◌, ◌||◌, ◌&&◌, not, nat_le}
use Rattle.std.specs.List.{list_all}
use Rattle.std.proofs.lemmas.Bool.Decides.{eqb_tells}
use Rattle.jats_chars.specs.Classes.{is_space, is_name_start, is_name_char, in_rows, name_more_rows}
use Rattle.jats_chars.specs.Names.{is_name}
use Rattle.jats_chars.proofs.Rows.{row_bounds}
use Rattle.content_models.specs.Model.{Chars}

pub and-left : (a b : Bool) → (a && b) ≡ true → a ≡ true
and-left true b h = refl
and-left false b h = h

pub and-right : (a b : Bool) → (a && b) ≡ true → b ≡ true
and-right true b h = h
and-right false b h = absurd (true≢false (sym h))

pub not-true : (a : Bool) → not a ≡ true → a ≡ false
not-true true h = absurd (true≢false (sym h))
not-true false h = refl

or-cases : (a b : Bool) → (a || b) ≡ true → (a ≡ true) ⊎ (b ≡ true)
or-cases true b h = inl refl
or-cases false b h = inr h

no-true : (a : Bool) → (a ≡ true → ⊥) → a ≡ false
no-true true h = absurd (h refl)
no-true false h = refl

-- white space is one of four characters
pub space_is : (P : ℕ → Type 0) → P 9 → P 10 → P 13 → P 32 → (c : ℕ) → is_space c ≡ true → P c
unfolding is_space
space_is P p9 p10 p13 p32 c h = elim (or-cases (nat_le 9 c && nat_le c 10) _ h) [
  | inl a ↦ (let r = row_bounds c 9 10 a in elim (eqb_tells c 9) [
    | inl q ↦ subst P (sym q.1) p9
    | inr q ↦ (let e : c ≡ 10 = omega (arith, r.0, r.1, q.1) in subst P (sym e) p10)
  ])
  | inr a ↦ elim (or-cases (nat_le 13 c && nat_le c 13) _ a) [
    | inl b ↦ (let r = row_bounds c 13 13 b in let e : c ≡ 13 = omega (arith, r.0, r.1) in subst P (sym e) p13)
    | inr b ↦ elim (or-cases (nat_le 32 c && nat_le c 32) _ b) [
      | inl d ↦ (let r = row_bounds c 32 32 d in let e : c ≡ 32 = omega (arith, r.0, r.1) in subst P (sym e) p32)
      | inr d ↦ absurd (true≢false (sym d))
    ]
  ]
]

-- neither part of a name nor a sign
abbrev pub stops_at : ℕ → Bool
stops_at c = not (is_name_char c) && (not (c == 63) && (not (c == 42) && not (c == 43)))

-- nothing that a name or a sign could go on with
abbrev pub stops : Chars → Bool
stops [] = true
stops (c ∷ t) = stops_at c

pub space_stops : (c : ℕ) → is_space c ≡ true → stops_at c ≡ true
unfolding is_name_char
space_stops = space_is (λ c. stops_at c ≡ true) refl refl refl refl

pub close_stops : stops_at 41 ≡ true
unfolding is_name_char
close_stops = refl

pub comma_stops : stops_at 44 ≡ true
unfolding is_name_char
comma_stops = refl

pub bar_stops : stops_at 124 ≡ true
unfolding is_name_char
bar_stops = refl

pub comma_plain : is_space 44 ≡ false
unfolding is_space
comma_plain = refl

pub bar_plain : is_space 124 ≡ false
unfolding is_space
bar_plain = refl

pub open_plain : is_space 40 ≡ false
unfolding is_space
open_plain = refl

pub close_plain : is_space 41 ≡ false
unfolding is_space
close_plain = refl

pub hash_plain : is_space 35 ≡ false
unfolding is_space
hash_plain = refl

-- a sign is not part of a name
pub opt_ends : is_name_char 63 ≡ false
unfolding is_name_char
opt_ends = refl

pub star_ends : is_name_char 42 ≡ false
unfolding is_name_char
star_ends = refl

pub plus_ends : is_name_char 43 ≡ false
unfolding is_name_char
plus_ends = refl

start_char : (c : ℕ) → is_name_start c ≡ true → is_name_char c ≡ true
unfolding is_name_char is_name_start
start_char c h = ap (λ b. b || in_rows name_more_rows c) h

start_not_space : (c : ℕ) → is_name_start c ≡ true → is_space c ≡ true → ⊥
unfolding is_name_start
start_not_space c h s = space_is (λ k. is_name_start k ≡ true → ⊥) (λ e. true≢false (sym e)) (λ e. true≢false (sym e)) (λ e. true≢false (sym e)) (λ e. true≢false (sym e)) c s h

start_not_hash : is_name_start 35 ≡ false
unfolding is_name_start
start_not_hash = refl

start_not_open : is_name_start 40 ≡ false
unfolding is_name_start
start_not_open = refl

char_not_open : is_name_char 40 ≡ false
unfolding is_name_char
char_not_open = refl

char_not_close : is_name_char 41 ≡ false
unfolding is_name_char
char_not_close = refl

differs : (f : ℕ → Bool) (c k : ℕ) → f c ≡ true → f k ≡ false → c ≡ k → ⊥
differs f c k h n e = true≢false (sym h ∙ ap f e ∙ n)

-- the first character of a name
pub name_space : (c : ℕ) (w : Chars) → is_name (c ∷ w) ≡ true → is_space c ≡ false
name_space c w h = no-true (is_space c) (start_not_space c (and-left (is_name_start c) (list_all is_name_char w) h))

pub name_hash : (c : ℕ) (w : Chars) → is_name (c ∷ w) ≡ true → c ≡ 35 → ⊥
name_hash c w h = differs is_name_start c 35 (and-left (is_name_start c) (list_all is_name_char w) h) start_not_hash

pub name_open : (c : ℕ) (w : Chars) → is_name (c ∷ w) ≡ true → c ≡ 40 → ⊥
name_open c w h = differs is_name_start c 40 (and-left (is_name_start c) (list_all is_name_char w) h) start_not_open

-- all characters of a name
pub name_chars : (w : Chars) → is_name w ≡ true → list_all is_name_char w ≡ true
name_chars [] h = refl
name_chars (c ∷ w) h =
    ap (λ b. b && list_all is_name_char w) (start_char c (and-left (is_name_start c) (list_all is_name_char w) h))
    ∙ and-right (is_name_start c) (list_all is_name_char w) h

pub char_open : (c : ℕ) → is_name_char c ≡ true → c ≡ 40 → ⊥
char_open c h = differs is_name_char c 40 h char_not_open

pub char_close : (c : ℕ) → is_name_char c ≡ true → c ≡ 41 → ⊥
char_close c h = differs is_name_char c 41 h char_not_close

pub space_open : (c : ℕ) → is_space c ≡ true → c ≡ 40 → ⊥
space_open c h = differs is_space c 40 h open_plain

pub space_close : (c : ℕ) → is_space c ≡ true → c ≡ 41 → ⊥
space_close c h = differs is_space c 41 h close_plain
