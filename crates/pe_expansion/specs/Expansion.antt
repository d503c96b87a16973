-- What texts with references to parameter entities stand for: entity values (XML 1.0, 4.4.5 and 4.5) and the bodies of
-- declarations (4.4.8, and Proper Declaration/PE Nesting of 2.8).
use Rattle.std.specs.Prelude.{ℕ, zero, suc, ◌-◌, List, [], ◌∷◌, ◌++◌, take, drop, length, Option, Some, None, Result, Ok, Err, Bool, false, ◌==◌, ◌||◌, ◌&&◌, if◌then◌else◌}
use Rattle.std.specs.Option.{is_none}
use Rattle.dtd_scanner.specs.Scanning.{quote_after}
use Rattle.dtd_scanner.specs.References.{named}
use Rattle.dtd_scanner.specs.Walk.{◌>>=◌, over}
use Rattle.pe_expansion.specs.declared.pieces.Kind.{Kind}
use Rattle.pe_expansion.specs.declared.pieces.Kind.TheVariants.{Char, Kept, Included}
use Rattle.pe_expansion.specs.declared.pieces.Piece.{Piece}
use Rattle.pe_expansion.specs.declared.pieces.Manner.{Manner}
use Rattle.pe_expansion.specs.declared.pieces.Manner.TheVariants.{Literal, Body}
use Rattle.pe_expansion.specs.declared.faults.PeFault.{PeFault}
use Rattle.pe_expansion.specs.declared.faults.PeFault.TheVariants.{Malformed, PeNesting}
use Rattle.pe_expansion.specs.Bound.{Bound}
use Rattle.pe_expansion.specs.Pieces.{first_piece}
use Rattle.pe_expansion.specs.Opening.{opening}

-- what is written so far, and how many characters were included
pub record Written : Type 0 where
  pub text : List ℕ
  pub spent : ℕ

abbrev pub with : Written → List ℕ → Written
with w more = record { text = w.text ++ more; spent = w.spent }

-- whether all quotes close, and no `<` or `>` stands outside quotes
abbrev pub nests : Option ℕ → List ℕ → Bool
nests quote [] = is_none quote
nests quote (c ∷ cs) = if is_none quote && (c == 60 || c == 62) then false else nests (quote_after quote c) cs

-- what is written before an included text: in a body a space
abbrev pub padded : Manner → List ℕ → List ℕ
padded Literal text = text
padded Body text = text ++ 32 ∷ []

-- the text of a name is included, and stands from this place on: in a body it must nest, and a space follows
abbrev pub closed : Manner → List ℕ → ℕ → Written → Result Written PeFault
closed Literal name start w = Ok w
closed Body name start w = if nests None (drop start w.text) then Ok (with w (32 ∷ [])) else Err (PeNesting name)

-- how a text is expanded behind what is written, where these names are open
abbrev pub Expanding : Type 0
Expanding = List (List ℕ) → Written → List ℕ → Result Written PeFault

-- the text of a name, with the name open
abbrev pub included : Manner → Expanding → Bound → List (List ℕ) → Written → List ℕ → Result Written PeFault
included manner deeper bound names w name =
    opening bound names w.spent name
    >>= λ t. deeper (names ++ name ∷ []) (record { text = padded manner w.text; spent = t.1 }) t.0
    >>= closed manner name (length (padded manner w.text))

-- a piece of this kind and length, with which the text begins
abbrev pub by_kind : Manner → Expanding → Bound → List (List ℕ) → Written → List ℕ → ℕ → Kind → Result Written PeFault
by_kind manner deeper bound names w text len (Char c) = Ok (with w (c ∷ []))
by_kind manner deeper bound names w text len Kept = Ok (with w (take len text))
by_kind manner deeper bound names w text len Included = included manner deeper bound names w (named len text)

abbrev pub by_piece : Manner → Expanding → Bound → List (List ℕ) → Written → List ℕ → Option Piece → Result (Written × ℕ) PeFault
by_piece manner deeper bound names w text None = Err Malformed
by_piece manner deeper bound names w text (Some p) = by_kind manner deeper bound names w text p.len p.kind >>= λ v. Ok (v, p.len)

-- one piece, wherever it stands
abbrev pub expansion_step : Manner → Expanding → Bound → List (List ℕ) → ℕ → Written → List ℕ → Result (Written × ℕ) PeFault
expansion_step manner deeper bound names at w text = by_piece manner deeper bound names w text (first_piece manner text)

-- The expansion of a text behind what is written, piece by piece, each text that it includes being one level deeper. A text
-- at the last level includes none, since 32 names are open there.
abbrev pub expansion : Manner → ℕ → Bound → Expanding
expansion manner zero bound names w text = Err Malformed
expansion manner (suc levels) bound names w text = over (expansion_step manner (expansion manner levels bound) bound names) 0 w text

-- the expansion of a text of its own, where these names are open and so many characters were included before
unfoldable pub expansion_of : Manner → Bound → List (List ℕ) → ℕ → List ℕ → Result Written PeFault
expansion_of manner bound names spent text = expansion manner (suc (32 - length names)) bound names (record { text = []; spent = spent }) text

-- what an entity value stands for
abbrev pub literal_of : Bound → List (List ℕ) → ℕ → List ℕ → Result Written PeFault
literal_of = expansion_of Literal

-- the body of a declaration without references to parameter entities
abbrev pub plain_body_of : Bound → List (List ℕ) → ℕ → List ℕ → Result Written PeFault
plain_body_of = expansion_of Body
