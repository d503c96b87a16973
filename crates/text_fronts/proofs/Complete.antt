-- What is written is read.
use Rattle.std.proofs.Common.{◌≡◌, ◌∙◌, ℕ, ◌+◌, List, [], ◌∷◌, ◌++◌, length, drop, refl, sym, ap, subst, true, true≢false, Some, None, inl, inr}
use Rattle.std.specs.Prelude.{option_and_then, option_map, if◌then◌else◌, ◌==◌, ◌||◌, not, position}
use Rattle.std.specs.List.{list_all}
use Rattle.std.proofs.lemmas.List.{append_assoc}
use Rattle.std.proofs.lemmas.Bool.{eq-eqb}
use Rattle.std.proofs.lemmas.Bool.Decides.{eqb_tells}
use Rattle.jats_chars.specs.Classes.{is_space, is_name_char}
use Rattle.jats_chars.specs.Names.{is_name}
use Rattle.dtd_scanner.specs.Items.{is_quote}
use Rattle.text_fronts.specs.Fronts.{skipped, after_word, read_space, read_name, spaced_name, literal_end, read_literal, spaced_literal}
use Rattle.text_fronts.specs.Grammar.{IsBlank, IsSpace, IsLiteral}
use Rattle.text_fronts.proofs.Ends.{skipped_more}
use Rattle.text_fronts.proofs.Fronts.{and-left, and-right, is-not, name_chars, stops, name_plain, space_ends, skipped_over, word_at, after_at, position_at, take_front, drop_behind}

-- ---- white space and names

pub space_back : (s r : List ℕ) → IsSpace s → stops is_space r ≡ true → read_space (s ++ r) ≡ Some r
space_back [] r h p = absurd h
space_back (c ∷ s) r h p =
    ap (λ b. if b then Some (skipped (s ++ r)) else None) (and-left (is_space c) (list_all is_space s) h)
    ∙ ap Some (skipped_over s r (and-right (is_space c) (list_all is_space s) h) p)

-- where white space may go on behind it, it is all passed over
pub space_more : (s r : List ℕ) → IsSpace s → read_space (s ++ r) ≡ Some (skipped r)
space_more [] r h = absurd h
space_more (c ∷ s) r h =
    ap (λ b. if b then Some (skipped (s ++ r)) else None) (and-left (is_space c) (list_all is_space s) h)
    ∙ ap Some (skipped_more s r (and-right (is_space c) (list_all is_space s) h))

-- no name goes on at white space
pub space_stop : (s r : List ℕ) → IsSpace s → stops is_name_char (s ++ r) ≡ true
space_stop [] r h = absurd h
space_stop (c ∷ s) r h = is-not (is_name_char c) (space_ends c (and-left (is_space c) (list_all is_space s) h))

pub blank_stop : (t : List ℕ) → IsBlank t → stops is_name_char t ≡ true
blank_stop [] h = refl
blank_stop (c ∷ t) h = is-not (is_name_char c) (space_ends c (and-left (is_space c) (list_all is_space t) h))

-- some white space is white space
pub space_blank : (s : List ℕ) → IsSpace s → IsBlank s
space_blank [] h = absurd h
space_blank (c ∷ s) h = h

pub name_back : (w r : List ℕ) → is_name w ≡ true → stops is_name_char r ≡ true → read_name (w ++ r) ≡ Some (w, r)
name_back w r h s =
    ap (λ k. if is_name k then Some (k, after_word (w ++ r)) else None) (word_at w r (name_chars w h) s)
    ∙ ap (λ b. if b then Some (w, after_word (w ++ r)) else None) h
    ∙ ap (λ k. Some (w, k)) (after_at w r (name_chars w h) s)

pub spaced_name_back : (a w r : List ℕ) → IsSpace a → is_name w ≡ true → stops is_name_char r ≡ true → spaced_name (a ++ (w ++ r)) ≡ Some (w, r)
spaced_name_back a w r h n s = ap (option_and_then read_name) (space_back a (w ++ r) h (name_plain w r n)) ∙ name_back w r n s

-- ---- literals

pub quote_cases : (P : ℕ → Type 0) → P 0x22 → P 0x27 → (q : ℕ) → is_quote q ≡ true → P q
quote_cases P a b q h = elim (eqb_tells q 0x22) [
  | inl x ↦ subst P (sym x.1) a
  | inr x ↦ elim (eqb_tells q 0x27) [
    | inl y ↦ subst P (sym y.1) b
    | inr y ↦ absurd (true≢false (sym h ∙ ap (λ k. k || (q == 0x27)) x.0 ∙ y.0))
  ]
]

pub literal_form : (s r inside : List ℕ) → (h : IsLiteral s inside) → s ++ r ≡ h.quote ∷ (inside ++ (h.quote ∷ r))
literal_form s r inside h = ap (λ k. k ++ r) h.form ∙ ap (λ k. h.quote ∷ k) (append_assoc inside (h.quote ∷ []) r)

pub literal_back : (s r inside : List ℕ) → IsLiteral s inside → read_literal (s ++ r) ≡ Some (inside, r)
unfolding read_literal
literal_back s r inside h =
    let q = h.quote in
    let cs = inside ++ (q ∷ r) in
    ap read_literal (literal_form s r inside h)
    ∙ ap (λ b. if b then option_map (literal_end cs) (position (λ c. c == q) cs) else None) h.is_quote
    ∙ ap (option_map (literal_end cs)) (position_at (λ c. c == q) inside q r h.within (eq-eqb q q refl))
    ∙ ap (λ k. Some (k, drop (length inside + 1) cs)) (take_front inside (q ∷ r))
    ∙ ap (λ k. Some (inside, k)) (drop_behind inside q r)

-- a literal begins without white space
pub literal_plain : (s r inside : List ℕ) → IsLiteral s inside → stops is_space (s ++ r) ≡ true
unfolding is_space
literal_plain s r inside h =
    ap (stops is_space) (literal_form s r inside h) ∙ quote_cases (λ q. not (is_space q) ≡ true) refl refl h.quote h.is_quote

-- a literal begins with a quote
pub literal_quote : (s r inside : List ℕ) → IsLiteral s inside → stops (λ c. not (is_quote c)) (s ++ r) ≡ true
literal_quote s r inside h =
    ap (stops (λ c. not (is_quote c))) (literal_form s r inside h) ∙ quote_cases (λ q. not (not (is_quote q)) ≡ true) refl refl h.quote h.is_quote

pub spaced_literal_back : (a s r inside : List ℕ) → IsSpace a → IsLiteral s inside → spaced_literal (a ++ (s ++ r)) ≡ Some (inside, r)
spaced_literal_back a s r inside h l = ap (option_and_then read_literal) (space_back a (s ++ r) h (literal_plain s r inside l)) ∙ literal_back s r inside l
