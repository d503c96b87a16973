-- References, and the characters that they name (XML 1.0, 4.1).
use Rattle.std.specs.Prelude.{ℕ, ◌+◌, ◌-◌, ◌*◌, List, take, drop, Bool, ◌||◌, ◌&&◌, Option, Some, None, nat_eq, nat_lt, nat_le, codes, if◌then◌else◌}
use Rattle.std.specs.List.{fold, prefix_len, starts_with}
use Rattle.std.specs.Option.{option_map, is_some}
use Rattle.jats_chars.specs.Classes.{is_char}
use Rattle.dtd_scanner.specs.Scanning.{reference_len}

-- a decimal digit
abbrev pub is_digit : ℕ → Bool
is_digit c = nat_le 48 c && nat_le c 57

-- a hexadecimal digit, in either case of letters
abbrev pub is_hex_digit : ℕ → Bool
is_hex_digit c = is_digit c || ((nat_le 65 c && nat_le c 70) || (nat_le 97 c && nat_le c 102))

-- the value of a digit
abbrev pub digit_value : ℕ → ℕ
digit_value c = if nat_le c 57 then c - 48 else if nat_le c 70 then c - 55 else c - 87

-- the number that digits write in a base
abbrev pub number : ℕ → List ℕ → ℕ
number base digits = fold (λ n c. base * n + digit_value c) 0 digits

-- the character of a number, if that is a Char
abbrev pub char_of : ℕ → Option ℕ
char_of n = if is_char n then Some n else None

-- this many digits of a base with a `;`, behind an opening of a character reference: the character, and the length of it all
abbrev pub numeral_end : ℕ → ℕ → List ℕ → ℕ → Option (ℕ × ℕ)
numeral_end base opening text n =
    if nat_lt 0 n && starts_with nat_eq (drop n text) (codes ";") then option_map (λ c. (c, opening + n + 1)) (char_of (number base (take n text))) else None

abbrev pub numeral : ℕ → (ℕ → Bool) → ℕ → List ℕ → Option (ℕ × ℕ)
numeral base is_digit opening text = numeral_end base opening text (prefix_len is_digit text)

-- Of a text that begins with `&#`, the Char that the character reference there names, and its length: `&#` with decimal
-- digits or `&#x` with hexadecimal ones, and `;` (production 66).
abbrev pub char_reference : List ℕ → Option (ℕ × ℕ)
char_reference text = if starts_with nat_eq text (codes "&#x") then numeral 16 is_hex_digit 3 (drop 3 text) else numeral 10 is_digit 2 (drop 2 text)

-- Of a text that begins with `&`, whether a reference stands there: a character reference that names a Char, or a reference
-- to a general entity (productions 66 to 68).
abbrev pub begins_reference : List ℕ → Bool
begins_reference text = if starts_with nat_eq (drop 1 text) (codes "#") then is_some (char_reference text) else is_some (reference_len text)

-- the name in a reference of this length
abbrev pub named : ℕ → List ℕ → List ℕ
named len text = take (len - 2) (drop 1 text)
