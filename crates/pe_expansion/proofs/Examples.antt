-- Examples of expansions.
use Rattle.std.proofs.Common.{◌≡◌, [], ◌∷◌, ◌++◌, Some, None, Ok, Err, refl}
use Rattle.std.specs.Prelude.{codes}
use Rattle.jats_chars.specs.Classes.{is_char, is_name_start, is_name_char}
use Rattle.dtd_scanner.specs.Walk.{over}
use Rattle.pe_expansion.specs.Ignored.{ignored_end}
use Rattle.pe_expansion.specs.Pieces.{literal_piece, body_piece}
use Rattle.pe_expansion.specs.Opening.{opening}
use Rattle.pe_expansion.specs.Expansion.{expansion_of, literal_of, plain_body_of}
use Rattle.pe_expansion.specs.declared.bindings.PeText.TheVariants.{Inner}
use Rattle.pe_expansion.specs.declared.faults.PeFault.TheVariants.{RecursivePe, PeNesting, Malformed}

-- XML 1.0, 4.5
gallimard : literal_of ((codes "pub", Inner (codes "Ed Gallimard")) ∷ []) [] 0 (codes "La Peste: Albert Camus, &#xA9; 1947 %pub;. &rights;")
    ≡ Ok (record { text = codes "La Peste: Albert Camus, " ++ 169 ∷ codes " 1947 Ed Gallimard. &rights;"; spent = 12 })
unfolding over literal_piece opening expansion_of is_name_start is_name_char is_char
gallimard = refl

-- XML 1.0, appendix D
percent : literal_of [] [] 0 (codes "&#37;zz;") ≡ Ok (record { text = codes "%zz;"; spent = 0 })
unfolding over literal_piece opening expansion_of is_name_start is_name_char is_char
percent = refl

tricky : literal_of [] [] 0 (codes "&#60;!ENTITY tricky \"error-prone\" >") ≡ Ok (record { text = codes "<!ENTITY tricky \"error-prone\" >"; spent = 0 })
unfolding over literal_piece opening expansion_of is_name_start is_name_char is_char
tricky = refl

no_char : literal_of [] [] 0 (codes "&#0;") ≡ Err Malformed
unfolding over literal_piece opening expansion_of is_name_start is_name_char is_char
no_char = refl

large : literal_of [] [] 0 (codes "&#x00000000000010FFFF;&#x110000;") ≡ Err Malformed
unfolding over literal_piece opening expansion_of is_name_start is_name_char is_char
large = refl

again : literal_of ((codes "x", Inner (codes "a%x;")) ∷ []) [] 0 (codes "%x;") ≡ Err (RecursivePe (codes "x"))
unfolding over literal_piece opening expansion_of is_name_start is_name_char is_char
again = refl

-- a space on both sides in a body, references in quotes kept, and a `%` before no NameStartChar
model : plain_body_of ((codes "b", Inner (codes "|b")) ∷ []) [] 0 (codes " a (a%b;)* '%b;' 5% %1") ≡ Ok (record { text = codes " a (a |b )* '%b;' 5% %1"; spent = 2 })
unfolding over body_piece opening expansion_of is_name_start is_name_char
model = refl

-- none in an entity value
value : literal_of ((codes "b", Inner (codes "|b")) ∷ []) [] 0 (codes "(a%b;)*") ≡ Ok (record { text = codes "(a|b)*"; spent = 2 })
unfolding over literal_piece opening expansion_of is_name_start is_name_char is_char
value = refl

open_quote : plain_body_of ((codes "x", Inner (codes "SYSTEM '")) ∷ []) [] 0 (codes " y %x;") ≡ Err (PeNesting (codes "x"))
unfolding over body_piece opening expansion_of is_name_start is_name_char
open_quote = refl

never_closed : plain_body_of [] [] 0 (codes " y '%x;") ≡ Ok (record { text = codes " y '%x;"; spent = 0 })
unfolding over body_piece opening expansion_of is_name_start is_name_char
never_closed = refl

-- the included text is expanded before its nesting is judged
begins : plain_body_of ((codes "x", Inner (codes "b>%c d")) ∷ []) [] 0 (codes "%x;") ≡ Err Malformed
unfolding over body_piece opening expansion_of is_name_start is_name_char
begins = refl

mark : plain_body_of ((codes "x", Inner (codes "'>' b>")) ∷ []) [] 0 (codes " a (%x;)") ≡ Err (PeNesting (codes "x"))
unfolding over body_piece opening expansion_of is_name_start is_name_char
mark = refl

ignored : ignored_end (codes "<![IGNORE[<![x]]>\"]]>\" ]]>") 10 ≡ Some 21
ignored = refl

unended : ignored_end (codes "<![x]]>") 0 ≡ None
unended = refl
