-- What is read from the fronts of flat texts.
use Rattle.std.proofs.Common.{◌≡◌, ◌∙◌, ℕ, ◌+◌, List, [], ◌∷◌, ◌++◌, length, drop, Bool, true, false, not, eqb, Some, None, refl, ap, sym, true≢false, append_assoc, if◌then◌else◌}
use Rattle.std.specs.Prelude.{codes, option_and_then, option_map, position}
use Rattle.std.specs.List.{list_all}
use Rattle.std.proofs.lemmas.Bool.{eqb-true, eq-eqb, and_parts, and_from, false_from_ne_true}
use Rattle.jats_chars.specs.Classes.{is_space, is_name_char}
use Rattle.jats_chars.specs.Names.{is_name}
use Rattle.dtd_scanner.specs.Items.{is_quote}
use Rattle.text_fronts.specs.Fronts.{read_space, read_name, spaced_name, after_word, read_literal, literal_end}
use Rattle.text_fronts.proofs.Fronts.{stops, name_chars, name_plain, skipped_over, word_at, after_at, position_at, take_front, drop_behind}
use Rattle.dtd_flattener.specs.Flat.{quoted}
use Rattle.dtd_flattener.proofs.Flatness.{is_plain, IsFlat, flat_plain, flat_quoted}

-- what passes a test differs from what does not
pub other_than : (p : ℕ → Bool) (d : ℕ) → p d ≡ false → (c : ℕ) → p c ≡ true → eqb c d ≡ false
other_than p d fails c passes = false_from_ne_true (eqb c d) (λ same. true≢false (sym passes ∙ ap p (eqb-true c d same) ∙ fails))

pub all_by : (p q : ℕ → Bool) → ((c : ℕ) → p c ≡ true → q c ≡ true) → (text : List ℕ) → list_all p text ≡ true → list_all q text ≡ true
all_by p q gives [] all = refl
all_by p q gives (c ∷ cs) all =
    let parts = and_parts (p c) (list_all p cs) all in
    and_from (q c) (list_all q cs) (gives c parts.0) (all_by p q gives cs parts.1)

-- ---- names

pub name_char_plain : (c : ℕ) → is_name_char c ≡ true → is_plain c ≡ true
unfolding is_name_char
name_char_plain c is =
    rw (other_than is_name_char 34 refl c is, other_than is_name_char 39 refl c is, other_than is_name_char 60 refl c is, other_than is_name_char 62 refl c is, other_than is_name_char 37 refl c is) refl

pub word_flat : (w : List ℕ) → list_all is_name_char w ≡ true → IsFlat w
word_flat w is = flat_plain w (all_by is_name_char is_plain name_char_plain w is)

pub name_flat : (name : List ℕ) → is_name name ≡ true → IsFlat name
name_flat name is = word_flat name (name_chars name is)

pub space_read : (rest : List ℕ) → stops is_space rest ≡ true → read_space (codes " " ++ rest) ≡ Some rest
unfolding is_space
space_read rest plain = ap Some (skipped_over [] rest refl plain)

-- no name goes on at a space
pub space_stops : (rest : List ℕ) → stops is_name_char (codes " " ++ rest) ≡ true
unfolding is_name_char
space_stops rest = refl

pub name_read : (name rest : List ℕ) → is_name name ≡ true → stops is_name_char rest ≡ true → read_name (name ++ rest) ≡ Some (name, rest)
name_read name rest is ends =
    ap (λ w. if is_name w then Some (w, after_word (name ++ rest)) else None) (word_at name rest (name_chars name is) ends)
    ∙ ap (λ b. if b then Some (name, after_word (name ++ rest)) else None) is
    ∙ ap (λ r. Some (name, r)) (after_at name rest (name_chars name is) ends)

pub spaced_name_read : (name rest : List ℕ) → is_name name ≡ true → stops is_name_char rest ≡ true → spaced_name (codes " " ++ (name ++ rest)) ≡ Some (name, rest)
spaced_name_read name rest is ends = ap (option_and_then read_name) (space_read (name ++ rest) (name_plain name rest is)) ∙ name_read name rest is ends

-- ---- literals

pub literal_read : (quote : ℕ) (inside rest : List ℕ) → is_quote quote ≡ true → list_all (λ c. not (eqb c quote)) inside ≡ true → read_literal (quote ∷ (inside ++ (quote ∷ rest))) ≡ Some (inside, rest)
unfolding read_literal
literal_read quote inside rest is none =
    let text = inside ++ (quote ∷ rest) in
    ap (λ b. if b then option_map (literal_end text) (position (λ c. eqb c quote) text) else None) is
    ∙ ap (option_map (literal_end text)) (position_at (λ c. eqb c quote) inside quote rest none (eq-eqb quote quote refl))
    ∙ ap (λ t. Some (t, drop (length inside + 1) text)) (take_front inside (quote ∷ rest))
    ∙ ap (λ t. Some (inside, t)) (drop_behind inside quote rest)

pub quoted_read : (inside rest : List ℕ) → list_all (λ c. not (eqb c 34)) inside ≡ true → read_literal (quoted inside ++ rest) ≡ Some (inside, rest)
quoted_read inside rest none = ap (λ t. read_literal (34 ∷ t)) (append_assoc inside (34 ∷ []) rest) ∙ literal_read 34 inside rest refl none

pub quoted_flat : (inside : List ℕ) → list_all (λ c. not (eqb c 34)) inside ≡ true → IsFlat (quoted inside)
quoted_flat inside none = flat_quoted 34 inside refl none
