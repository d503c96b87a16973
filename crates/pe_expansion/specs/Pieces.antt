-- The first piece of a text that is expanded (XML 1.0, 4.1, 4.3.2 and 4.4).
use Rattle.std.specs.Prelude.{ℕ, ◌+◌, List, [], ◌∷◌, length, position, Bool, not, ◌==◌, ◌||◌, ◌&&◌, Option, Some, None, nat_eq, codes, if◌then◌else◌}
use Rattle.std.specs.List.{starts_with}
use Rattle.std.specs.Option.{option_map, option_map_or}
use Rattle.jats_chars.specs.Classes.{is_name_start}
use Rattle.dtd_scanner.specs.Items.{first_is, is_quote}
use Rattle.dtd_scanner.specs.Scanning.{reference_len}
use Rattle.dtd_scanner.specs.References.{char_reference}
use Rattle.pe_expansion.specs.declared.pieces.Kind.{Kind}
use Rattle.pe_expansion.specs.declared.pieces.Kind.TheVariants.{Char, Kept, Included}
use Rattle.pe_expansion.specs.declared.pieces.Piece.{Piece}
use Rattle.pe_expansion.specs.declared.pieces.Manner.{Manner}
use Rattle.pe_expansion.specs.declared.pieces.Manner.TheVariants.{Literal, Body}

-- a character with the length of the reference to it
abbrev pub char_piece : ℕ × ℕ → Piece
char_piece r = record { kind = Char r.0; len = r.1 }

-- a reference: a mark of one character, a Name and `;` (productions 68 and 69)
abbrev pub reference : Kind → List ℕ → Option Piece
reference kind text = option_map (λ n. record { kind = kind; len = n }) (reference_len text)

-- The first piece of an entity value: a reference to a parameter entity, a reference to a character, a general reference,
-- which is kept, or a character. There is none where `%` or `&` begins no reference.
unfoldable pub literal_piece : List ℕ → Option Piece
literal_piece [] = None
literal_piece (c ∷ cs) =
    if c == 37 then reference Included (c ∷ cs)
    else if c == 38 then (if starts_with nat_eq cs (codes "#") then option_map char_piece (char_reference (c ∷ cs)) else reference Kept (c ∷ cs))
    else Some (record { kind = Char c; len = 1 })

-- the length of a quoted part, or of all that follows a quote which nothing closes
abbrev pub quoted_len : ℕ → List ℕ → ℕ
quoted_len quote rest = option_map_or (λ k. k + 2) (position (λ c. c == quote) rest) (length rest + 1)

-- The first piece of a body: a reference where `%` stands before a NameStartChar, a quoted part, which is kept, or a
-- character. There is none where such a `%` begins no reference.
unfoldable pub body_piece : List ℕ → Option Piece
body_piece [] = None
body_piece (c ∷ cs) =
    if c == 37 && first_is is_name_start cs then reference Included (c ∷ cs)
    else if is_quote c then Some (record { kind = Kept; len = quoted_len c cs })
    else Some (record { kind = Char c; len = 1 })

-- the first piece of a text
abbrev pub first_piece : Manner → List ℕ → Option Piece
first_piece Literal text = literal_piece text
first_piece Body text = body_piece text

-- whether a character stands for itself, wherever it stands outside quotes, and nesting is the same behind it
abbrev pub is_plain : Manner → ℕ → Bool
is_plain Literal c = not (c == 37 || c == 38)
is_plain Body c = not (is_quote c || (c == 37 || (c == 60 || c == 62)))
