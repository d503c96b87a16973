-- The text that a list of bytes stands for (XML 1.0, 2.2, 2.11, 4.3.1 and 4.3.3).
use Rattle.std.specs.Prelude.{◌≡◌, ℕ, ◌+◌, ◌≤◌, ◌<◌, Bool, false, ◌&&◌, ◌==◌, List, [], ◌∷◌, drop, Option, Some, None, Result, Ok, Err, nat_eq, if◌then◌else◌}
use Rattle.std.specs.List.{starts_with, prefix_len, take_while, sum_by, filter_map}
use Rattle.bstr.specs.Utf8.{Decoded, pieces}
use Rattle.jats_chars.specs.Classes.{is_char}
use Rattle.jats_chars.specs.TextDeclaration.{Valued, begins_declaration, declaration, is_utf8}
use Rattle.jats_chars.specs.declared.decoding.DecodeFault.{DecodeFault}
use Rattle.jats_chars.specs.declared.decoding.DecodeFault.TheVariants as fault

-- the byte order mark, U+FEFF in UTF-8
abbrev pub byte_order_mark : List ℕ
byte_order_mark = 0xEF ∷ 0xBB ∷ 0xBF ∷ []

-- how many bytes of a file the byte order mark takes that it begins with
abbrev pub mark_len : List ℕ → ℕ
mark_len file = if starts_with nat_eq file byte_order_mark then 3 else 0

-- whether there is a character, and it is a Char
abbrev pub is_some_char : Option ℕ → Bool
is_some_char None = false
is_some_char (Some c) = is_char c

-- whether a piece of the bytes spells a Char
abbrev pub spells_char : Decoded → Bool
spells_char piece = is_some_char piece.char

-- a byte that spells by itself a Char that is no line end
abbrev pub IsPlain : ℕ → Type 0
IsPlain byte = (0x20 ≤ byte) × (byte < 0x80)

-- what is wrong with a piece at this place that spells no Char: it is ill-formed, or another character
abbrev pub fault_of : Option ℕ → ℕ → DecodeFault
fault_of None place = fault.NotUtf8 place
fault_of (Some c) place = fault.NotChar place

-- the characters of the pieces before the first that spells no Char, or what is wrong with that one
abbrev pub chars_before : ℕ → List Decoded → List Decoded → Result (List ℕ) DecodeFault
chars_before start before [] = Ok (filter_map (λ piece. piece.char) before)
chars_before start before (piece ∷ later) = Err (fault_of piece.char (start + sum_by (λ p. p.size) before))

-- the characters of all pieces, of which the first begins at this place of the file, or what is wrong with the first that spells no Char
unfoldable pub chars_of : ℕ → List Decoded → Result (List ℕ) DecodeFault
chars_of start all = chars_before start (take_while spells_char all) (drop (prefix_len spells_char all) all)

-- a CR that no LF follows becomes LF, and one that LF follows goes away (XML 1.0, 2.11)
abbrev pub line_ends : List ℕ → List ℕ
line_ends [] = []
line_ends (c ∷ []) = (if c == 0xD then 0xA else c) ∷ []
line_ends (c ∷ d ∷ later) = if c == 0xD && d == 0xA then line_ends (d ∷ later) else ((if c == 0xD then 0xA else c) ∷ line_ends (d ∷ later))

-- the text behind a declaration, by the encoding that it names
abbrev pub text_behind : Option (Valued (Option (List ℕ))) → Result (List ℕ) DecodeFault
text_behind None = Err fault.BadTextDecl
text_behind (Some read) = if is_utf8 read.0 then Ok read.1 else Err fault.EncodingOther

-- the text without its text declaration, if it has one
unfoldable pub without_declaration : List ℕ → Result (List ℕ) DecodeFault
without_declaration text = if begins_declaration text then text_behind (declaration text) else Ok text

abbrev pub lined : Result (List ℕ) DecodeFault → Result (List ℕ) DecodeFault
lined (Ok chars) = Ok (line_ends chars)
lined (Err f) = Err f

abbrev pub undeclared : Result (List ℕ) DecodeFault → Result (List ℕ) DecodeFault
undeclared (Ok text) = without_declaration text
undeclared (Err f) = Err f

-- the text of a file: its mark is dropped, its pieces are characters, its line ends are LF, and its text declaration is dropped
abbrev pub text_of : List ℕ → Result (List ℕ) DecodeFault
text_of file = undeclared (lined (chars_of (mark_len file) (pieces (drop (mark_len file) file))))

-- the answer is what is said, or want of memory
abbrev pub Answers : Result (List ℕ) DecodeFault → Result (List ℕ) DecodeFault → Type 0
Answers said (Err fault.NoMemory) = Unit {0}
Answers said (Ok text) = said ≡ Ok text
Answers said (Err f) = said ≡ Err f

-- what decoding a file answers: its text, or its first fault, or want of memory
abbrev pub Decodes : List ℕ → Result (List ℕ) DecodeFault → Type 0
Decodes file result = Answers (text_of file) result

-- a fault other than want of memory
abbrev pub IsOther : DecodeFault → Type 0
IsOther fault.NoMemory = ⊥
IsOther f = Unit {0}
