-- The text of the bytes of a text.
use Rattle.std.proofs.Common.{◌≡◌, ◌∙◌, ◌≤◌, ◌<◌, ℕ, ◌+◌, List, [], ◌∷◌, ◌++◌, length, drop, Bool, true, cond, not, eqb, leb, ◌&&◌, ◌||◌, ◌⊎◌, Ok, refl, ap, sym, subst, arith, ⊎_elim, true≢false, length-append, drop_at, encode_utf8_all}
use Rattle.std.specs.Char.{IsScalar, encode_utf8}
use Rattle.std.specs.List.{list_all}
use Rattle.std.proofs.lemmas.Bool.{and_parts, or_cases, leb-true, not-true}
use Rattle.std.proofs.lemmas.Bool.Decides.{nat_tests}
use Rattle.bstr.specs.Utf8.{Decoded, decoded, good, pieces}
use Rattle.bstr.proofs.lemmas.EncodeLemmas.{decoded-encode}
use Rattle.bstr.proofs.lemmas.PieceLemmas.{pieces-step, pieces-nil}
use Rattle.jats_chars.specs.Classes.{Rows, in_row, in_rows, char_rows, is_char}
use Rattle.jats_chars.specs.Decoded.{mark_len, chars_of, line_ends, lined, undeclared, without_declaration, text_of}
use Rattle.jats_chars.specs.TextDeclaration.{begins_declaration}
use Rattle.jats_chars.proofs.Ends.{behind}
use Rattle.jats_chars.proofs.Pieces.{chars_of-nil, chars_of-more}
use Rattle.dtd_flattener.proofs.TextChars.{is_text_char}

-- ---- scalar values

abbrev scalar_row : ℕ × ℕ → Bool
scalar_row row = leb row.1 55295 || (leb 57344 row.0 && leb row.1 1114111)

low : (c : ℕ) → c < 55296 → IsScalar c
low c small = grind (arith, nat_tests)

high : (c : ℕ) → 57344 ≤ c → c < 1114112 → IsScalar c
high c above below = grind (arith, nat_tests)

row_scalar : (c : ℕ) (row : ℕ × ℕ) → scalar_row row ≡ true → in_row c row ≡ true → IsScalar c
row_scalar c row is within =
    let held = and_parts (leb row.0 c) (leb c row.1) within in
    let above : row.0 ≤ c = leb-true row.0 c held.0 in
    let below : c ≤ row.1 = leb-true c row.1 held.1 in
    ⊎_elim
    (λ first. let most : row.1 ≤ 55295 = leb-true row.1 55295 first in low c (omega arith))
    (λ second.
    let both = and_parts (leb 57344 row.0) (leb row.1 1114111) second in
    let least : 57344 ≤ row.0 = leb-true 57344 row.0 both.0 in
    let most : row.1 ≤ 1114111 = leb-true row.1 1114111 both.1 in
    high c (omega arith) (omega arith))
    (or_cases (leb row.1 55295) (leb 57344 row.0 && leb row.1 1114111) is)

rows_scalar : (c : ℕ) (rows : Rows) → list_all scalar_row rows ≡ true → in_rows rows c ≡ true → IsScalar c
rows_scalar c [] all within = absurd (true≢false (sym within))
rows_scalar c (row ∷ rows) all within =
    let parts = and_parts (scalar_row row) (list_all scalar_row rows) all in
    ⊎_elim (λ here. row_scalar c row parts.0 here) (λ later. rows_scalar c rows parts.1 later) (or_cases (in_row c row) (in_rows rows c) within)

char_scalar : (c : ℕ) → is_char c ≡ true → IsScalar c
unfolding is_char
char_scalar c is = rows_scalar c char_rows refl is

-- ---- characters

encode_some : (c : ℕ) → 0 < length (encode_utf8 c)
unfolding encode_utf8
encode_some c = grind (arith, nat_tests)

pub encoded_chars : (start : ℕ) (text : List ℕ) → list_all is_text_char text ≡ true → chars_of start (pieces (encode_utf8_all text)) ≡ Ok text
encoded_chars start [] are = ap (chars_of start) pieces-nil ∙ chars_of-nil start
encoded_chars start (c ∷ cs) are =
    let parts = and_parts (is_text_char c) (list_all is_text_char cs) are in
    let is : is_char c ≡ true = (and_parts (is_char c) (not (eqb c 13)) parts.0).0 in
    let first = encode_utf8 c in
    let rest = encode_utf8_all cs in
    let bytes = first ++ rest in
    let read : decoded bytes ≡ good c (length first) = decoded-encode c rest (char_scalar c is) in
    let some : 0 < length bytes = omega (arith, encode_some c, length-append first rest) in
    ap (chars_of start) (pieces-step bytes some ∙ ap (λ (p : Decoded). p ∷ pieces (drop p.size bytes)) read ∙ ap (λ t. good c (length first) ∷ pieces t) (drop_at first rest (length first) refl))
    ∙ chars_of-more start (good c (length first)) c (pieces rest) refl is
    ∙ ap (behind (c ∷ [])) (encoded_chars (start + length first) cs parts.1)

lines_same : (text : List ℕ) → list_all is_text_char text ≡ true → line_ends text ≡ text
lines_same [] are = refl
lines_same (c ∷ []) are =
    let parts = and_parts (is_text_char c) true are in
    ap (λ b. (cond b 10 c) ∷ []) (not-true (eqb c 13) (and_parts (is_char c) (not (eqb c 13)) parts.0).1)
lines_same (c ∷ d ∷ cs) are =
    let parts = and_parts (is_text_char c) (list_all is_text_char (d ∷ cs)) are in
    let other = not-true (eqb c 13) (and_parts (is_char c) (not (eqb c 13)) parts.0).1 in
    ap (λ b. cond (b && eqb d 10) (line_ends (d ∷ cs)) ((cond b 10 c) ∷ line_ends (d ∷ cs))) other ∙ ap (λ t. c ∷ t) (lines_same (d ∷ cs) parts.1)

-- ---- the text of a file

-- a text that is empty or begins with `<!`
abbrev pub Begins : List ℕ → Type 0
Begins text = (text ≡ []) ⊎ ((rest : List ℕ) × (text ≡ 60 ∷ 33 ∷ rest))

no_mark : (rest : List ℕ) → mark_len (encode_utf8_all (60 ∷ 33 ∷ rest)) ≡ 0
unfolding encode_utf8
no_mark rest = refl

no_declaration : (rest : List ℕ) → without_declaration (60 ∷ 33 ∷ rest) ≡ Ok (60 ∷ 33 ∷ rest)
unfolding without_declaration begins_declaration
no_declaration rest = refl

empty_same : without_declaration [] ≡ Ok []
unfolding without_declaration begins_declaration
empty_same = refl

begins_no_mark : (text : List ℕ) → Begins text → mark_len (encode_utf8_all text) ≡ 0
begins_no_mark text begins =
    ⊎_elim (λ none. ap (λ (t : List ℕ). mark_len (encode_utf8_all t)) none ∙ refl) (λ some. ap (λ (t : List ℕ). mark_len (encode_utf8_all t)) some.1 ∙ no_mark some.0) begins

begins_no_declaration : (text : List ℕ) → Begins text → without_declaration text ≡ Ok text
begins_no_declaration text begins =
    ⊎_elim
    (λ none. subst (λ (t : List ℕ). without_declaration t ≡ Ok t) (sym none) empty_same)
    (λ some. subst (λ (t : List ℕ). without_declaration t ≡ Ok t) (sym some.1) (no_declaration some.0))
    begins

-- The bytes of a text have it as their text, where it begins with no mark and with no declaration.
pub text_read : (text : List ℕ) → mark_len (encode_utf8_all text) ≡ 0 → without_declaration text ≡ Ok text → list_all is_text_char text ≡ true → text_of (encode_utf8_all text) ≡ Ok text
text_read text unmarked plain are =
    let bytes = encode_utf8_all text in
    ap (λ n. undeclared (lined (chars_of n (pieces (drop n bytes))))) unmarked
    ∙ ap (λ r. undeclared (lined r)) (encoded_chars 0 text are)
    ∙ ap without_declaration (lines_same text are)
    ∙ plain

-- and so the bytes of such a text
pub text_encoded : (text : List ℕ) → Begins text → list_all is_text_char text ≡ true → text_of (encode_utf8_all text) ≡ Ok text
text_encoded text begins are = text_read text (begins_no_mark text begins) (begins_no_declaration text begins) are
