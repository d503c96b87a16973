-- What is read from the front of a text, with the rest of it; None where nothing of the form begins it.
use Rattle.std.specs.Prelude.{ℕ, ◌+◌, ◌-◌, ◌==◌, Bool, List, [], ◌∷◌, length, take, drop, position, Option, Some, None, option_and_then, option_map, if◌then◌else◌}
use Rattle.std.specs.List.{list_all, prefix_len, suffix_len}
use Rattle.jats_chars.specs.Classes.{is_space, is_name_char}
use Rattle.jats_chars.specs.Names.{is_name}
use Rattle.dtd_scanner.specs.Items.{is_quote}

abbrev pub Read : Type 0 → Type 0
Read X = Option (X × List ℕ)

-- ---- white space (XML 1.0, production 3)

-- whether there is white space alone, or nothing
abbrev pub is_blank : List ℕ → Bool
is_blank text = list_all is_space text

-- the text without the white space at its front
unfoldable pub skipped : List ℕ → List ℕ
skipped text = drop (prefix_len is_space text) text

-- the text without the white space at its end
abbrev pub trimmed_end : List ℕ → List ℕ
trimmed_end text = take (length text - suffix_len is_space text) text

-- the text without the white space at its ends
abbrev pub trimmed : List ℕ → List ℕ
trimmed text = trimmed_end (skipped text)

-- S: the rest
abbrev pub read_space : List ℕ → Option (List ℕ)
read_space [] = None
read_space (c ∷ cs) = if is_space c then Some (skipped cs) else None

-- ---- names (production 5)

-- the name characters at the front, and the rest
unfoldable pub word : List ℕ → List ℕ
word text = take (prefix_len is_name_char text) text

unfoldable pub after_word : List ℕ → List ℕ
after_word text = drop (prefix_len is_name_char text) text

-- a Name
abbrev pub read_name : List ℕ → Read (List ℕ)
read_name text = if is_name (word text) then Some (word text, after_word text) else None

-- S Name
abbrev pub spaced_name : List ℕ → Read (List ℕ)
spaced_name text = option_and_then read_name (read_space text)

-- ---- literals (productions 11 and 12)

abbrev pub literal_end : List ℕ → ℕ → List ℕ × List ℕ
literal_end text k = (take k text, drop (k + 1) text)

-- any characters between two quotes of a kind
unfoldable pub read_literal : List ℕ → Read (List ℕ)
read_literal [] = None
read_literal (quote ∷ text) = if is_quote quote then option_map (literal_end text) (position (λ c. c == quote) text) else None

-- S literal
abbrev pub spaced_literal : List ℕ → Read (List ℕ)
spaced_literal text = option_and_then read_literal (read_space text)
