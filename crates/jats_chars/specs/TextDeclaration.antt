-- Text declarations and XML declarations (XML 1.0, 2.8, 4.3.1 and 4.3.3, productions 23 to 26, 32, 77, 80 and 81).
use Rattle.std.specs.Prelude.{ℕ, ◌+◌, Bool, true, false, not, ◌&&◌, ◌||◌, ◌==◌, List, [], ◌∷◌, length, take, drop, position, unwrap_or, Option, Some, None, bytes_eq, codes, nat_eq, if◌then◌else◌}
use Rattle.std.specs.Option.{is_some, option_map}
use Rattle.std.specs.List.{starts_with, list_all}
use Rattle.std.specs.Char.{eq_ignore_ascii_case, is_ascii_digit, is_ascii_alphabetic, is_ascii_alphanumeric}
use Rattle.std.specs.Cmp.Lexicographic.{pointwise}
use Rattle.jats_chars.specs.Classes.{is_space}

-- S?: the text behind the white space that it begins with
unfoldable pub after_space : List ℕ → List ℕ
after_space text = drop (unwrap_or (position (λ c. not (is_space c)) text) (length text)) text

-- whether white space stands at the beginning
abbrev pub begins_space : List ℕ → Bool
begins_space [] = false
begins_space (c ∷ cs) = is_space c

-- S: the text behind the white space that it must begin with
unfoldable pub after_some_space : List ℕ → Option (List ℕ)
after_some_space text = if begins_space text then Some (after_space text) else None

-- the text behind the word that it must begin with
unfoldable pub after_word : List ℕ → List ℕ → Option (List ℕ)
after_word word text = if starts_with nat_eq text word then Some (drop (length word) text) else None

-- one reading, and then another of what is behind it
abbrev pub then_read : {A B : Type 0} → Option A → (A → Option B) → Option B
then_read None next = None
then_read (Some a) next = next a

-- Eq: `=`, with white space or not on both sides
unfoldable pub after_eq : List ℕ → Option (List ℕ)
after_eq text = option_map after_space (after_word (codes "=") (after_space text))

-- a value and the text behind it
abbrev pub Valued : Type 0 → Type 0
Valued A = A × List ℕ

-- what stands before the first of these quotes, and behind it
abbrev pub before_quote : ℕ → List ℕ → Option (Valued (List ℕ))
before_quote quote text = option_map (λ k. (take k text, drop (k + 1) text)) (position (λ c. c == quote) text)

-- a value in `"` or in `'`
unfoldable pub quoted : List ℕ → Option (Valued (List ℕ))
quoted [] = None
quoted (c ∷ text) = if c == 0x22 || c == 0x27 then before_quote c text else None

-- S, a word, Eq and a quoted value
unfoldable pub part : List ℕ → List ℕ → Option (Valued (List ℕ))
part word text = then_read (then_read (then_read (after_some_space text) (after_word word)) after_eq) quoted

abbrev pub or_none : List ℕ → Option (Valued (List ℕ)) → Valued (Option (List ℕ))
or_none text None = (None, text)
or_none text (Some read) = (Some read.0, read.1)

-- the same, or nothing of it
unfoldable pub optional_part : List ℕ → List ℕ → Valued (Option (List ℕ))
optional_part word text = or_none text (part word text)

-- `1.` and digits
unfoldable pub is_version : List ℕ → Bool
is_version value = starts_with nat_eq value (codes "1.") && (not (bytes_eq (drop 2 value) []) && list_all is_ascii_digit (drop 2 value))

abbrev pub is_encoding_char : ℕ → Bool
is_encoding_char c = is_ascii_alphanumeric c || (c == 0x2E || (c == 0x5F || c == 0x2D))

-- EncName: a letter, and then letters, digits, `.`, `_` and `-`
unfoldable pub is_encoding : List ℕ → Bool
is_encoding [] = false
is_encoding (c ∷ cs) = is_ascii_alphabetic c && list_all is_encoding_char cs

unfoldable pub is_yes_or_no : List ℕ → Bool
is_yes_or_no value = bytes_eq value (codes "yes") || bytes_eq value (codes "no")

-- whether a value that may be left out has its form
abbrev pub fits : (List ℕ → Bool) → Option (List ℕ) → Bool
fits form None = true
fits form (Some value) = form value

-- whether at least one of a version, an encoding and yes or no is there, and each that is there has its form
unfoldable pub is_proper : Option (List ℕ) → Option (List ℕ) → Option (List ℕ) → Bool
is_proper version encoding standalone =
    (is_some version || (is_some encoding || is_some standalone)) && (fits is_version version && (fits is_encoding encoding && fits is_yes_or_no standalone))

-- the three parts in their order, S? and `?>`: the encoding and the text behind
unfoldable pub inside_declaration : List ℕ → Option (Valued (Option (List ℕ)))
inside_declaration text =
    let version = optional_part (codes "version") text in
    let encoding = optional_part (codes "encoding") version.1 in
    let standalone = optional_part (codes "standalone") encoding.1 in
    if is_proper version.0 encoding.0 standalone.0 then option_map (λ rest. (encoding.0, rest)) (after_word (codes "?>") (after_space standalone.1)) else None

-- the declaration that a text begins with: its encoding and the text behind it
unfoldable pub declaration : List ℕ → Option (Valued (Option (List ℕ)))
declaration text = then_read (after_word (codes "<?xml") text) inside_declaration

-- whether a text begins with `<?xml` and white space
unfoldable pub begins_declaration : List ℕ → Bool
begins_declaration text = starts_with nat_eq text (codes "<?xml") && begins_space (drop 5 text)

abbrev pub is_word_in_any_case : List ℕ → List ℕ → Bool
is_word_in_any_case word name = pointwise eq_ignore_ascii_case name word

-- whether an encoding is UTF-8 or US-ASCII, in any case of letters
abbrev pub is_utf8_name : List ℕ → Bool
is_utf8_name name = is_word_in_any_case (codes "UTF-8") name || is_word_in_any_case (codes "US-ASCII") name

-- whether the encoding that a declaration names, if it names one, is read as UTF-8
unfoldable pub is_utf8 : Option (List ℕ) → Bool
is_utf8 encoding = fits is_utf8_name encoding
