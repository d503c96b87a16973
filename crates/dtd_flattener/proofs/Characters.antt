-- Flat texts are of Chars other than CR.
use Rattle.std.proofs.Common.{◌≡◌, ◌∙◌, ℕ, List, [], ◌∷◌, ◌++◌, map, Bool, true, false, not, eqb, ◌||◌, refl, ap, sym, inl, inr, true≢false, append_assoc, if◌then◌else◌}
use Rattle.std.specs.Prelude.{codes}
use Rattle.std.specs.List.{list_all, list_any, concat, slice_split, join_with_byte, AllByRecursion}
use Rattle.std.proofs.lemmas.Bool.{and_parts, and_from, not-true, not_from_false, false_from_ne_true}
use Rattle.jats_chars.specs.Classes.{is_char, is_pubid_char}
use Rattle.jats_chars.specs.Names.{is_name}
use Rattle.content_models.specs.Spelling.{flat}
use Rattle.entity_catalog.specs.Collapse.{is_public_space, is_empty, public_words, collapse_public}
use Rattle.entity_catalog.specs.declared.ids.Ids.{Ids}
use Rattle.entity_catalog.specs.declared.ids.Ids.TheVariants.{System, Public, PublicOnly}
use Rattle.entity_catalog.proofs.Separated.{unseparated, parts_unseparated, list_all-filter}
use Rattle.dtd_scanner.specs.declared.item.ItemKind.{ItemKind}
use Rattle.dtd_scanner.specs.declared.item.ItemKind.TheVariants.{Blank, Comment, Pi, Reference, SectionStart, ElementDecl, AttlistDecl, EntityDecl, NotationDecl}
use Rattle.decl_set.specs.Asked.{is_system, is_public, are_ids, is_notation_kept, IsElement}
use Rattle.decl_set.specs.Declarations.{Notation, Element}
use Rattle.dtd_flattener.specs.Flat.{Line, quoted, system_literal, ids_text, notation_body, element_body, opening, written}
use Rattle.dtd_flattener.proofs.Encoded.{Begins}
use Rattle.dtd_flattener.proofs.Fronts.{all_by}
use Rattle.dtd_flattener.proofs.Identifiers.{system_is, public_is}
use Rattle.dtd_flattener.proofs.Leading.{is_declaration}
use Rattle.dtd_flattener.proofs.Spelling.{content_text}
use Rattle.dtd_flattener.proofs.TextChars.{is_text_char, name_text, pubid_char, text_joined, chars_text}

abbrev pub IsText : List ℕ → Type 0
IsText text = list_all is_text_char text ≡ true

-- ---- literals

-- a text between two quotes
pub quoted_text : (text : List ℕ) → IsText text → IsText (quoted text)
unfolding is_char
quoted_text text is = text_joined (34 ∷ []) (text ++ 34 ∷ []) refl (text_joined text (34 ∷ []) is refl)

apostrophes_text : (text : List ℕ) → IsText text → IsText (39 ∷ (text ++ 39 ∷ []))
unfolding is_char
apostrophes_text text is = text_joined (39 ∷ []) (text ++ 39 ∷ []) refl (text_joined text (39 ∷ []) is refl)

pub system_text : (text : List ℕ) → is_system text ≡ true → IsText (system_literal text)
system_text text is = by (list_any (λ c. eqb c 34) text)
  where
    inner : IsText text
    inner = chars_text text (system_is text is).chars (system_is text is).lines

    by : (b : Bool) → IsText (if b then 39 ∷ (text ++ 39 ∷ []) else quoted text)
    by true = apostrophes_text text inner
    by false = quoted_text text inner

-- what no separator stands in has no CR
no_return : (c : ℕ) → not (is_public_space c) ≡ true → not (eqb c 13) ≡ true
no_return c is = not_from_false (eqb c 13) (false_from_ne_true (eqb c 13) (λ same. true≢false (sym (by (eqb c 32) (eqb c 13) same) ∙ not-true (is_public_space c) is)))
  where
    by : (a b : Bool) → b ≡ true → (a || (b || eqb c 10)) ≡ true
    by true b e = refl
    by false b e = ap (λ x. x || eqb c 10) e

abbrev without : List ℕ → Bool
without text = list_all (λ c. not (eqb c 13)) text

words_without : (words : List (List ℕ)) → list_all (unseparated is_public_space) words ≡ true → list_all without words ≡ true
words_without [] are = refl
words_without (word ∷ words) are =
    let parts = and_parts (unseparated is_public_space word) (list_all (unseparated is_public_space) words) are in
    and_from (without word) (list_all without words) (all_by (λ c. not (is_public_space c)) (λ c. not (eqb c 13)) no_return word parts.0) (words_without words parts.1)

both_without : (first second : List ℕ) → without first ≡ true → without second ≡ true → without (first ++ second) ≡ true
both_without [] second is also = also
both_without (c ∷ first) second is also =
    let parts = and_parts (not (eqb c 13)) (without first) is in
    and_from (not (eqb c 13)) (without (first ++ second)) parts.0 (both_without first second parts.1 also)

join_without : (words : List (List ℕ)) → list_all without words ≡ true → without (join_with_byte 32 words) ≡ true
join_without [] are = refl
join_without (word ∷ []) are = (and_parts (without word) true are).0
join_without (word ∷ next ∷ words) are =
    let parts = and_parts (without word) (list_all without (next ∷ words)) are in
    both_without word (32 ∷ join_with_byte 32 (next ∷ words)) parts.0 (join_without (next ∷ words) parts.1)

-- a collapsed identifier has no CR
collapsed_without : (text : List ℕ) → without (collapse_public text) ≡ true
unfolding collapse_public
collapsed_without text =
    join_without (public_words text) (words_without (public_words text)
    (list_all-filter (λ word. not (is_empty word)) (unseparated is_public_space) (slice_split is_public_space text) (parts_unseparated is_public_space text)))

pub public_text : (text : List ℕ) → is_public text ≡ true → IsText (quoted text)
public_text text is =
    let p = public_is text is in
    quoted_text text (chars_text text (all_by is_pubid_char is_char pubid_char text p.chars) (ap without (sym p.same) ∙ collapsed_without text))

space_text : IsText (codes " ")
unfolding is_char
space_text = refl

system_word_text : IsText (codes "SYSTEM ")
unfolding is_char
system_word_text = refl

public_word_text : IsText (codes "PUBLIC ")
unfolding is_char
public_word_text = refl

pub ids_are_text : (ids : Ids) → are_ids ids ≡ true → IsText (ids_text ids)
ids_are_text (System s) is = text_joined (codes "SYSTEM ") (system_literal s) system_word_text (system_text s is)
ids_are_text (Public p s) is =
    let parts = and_parts (is_public p) (is_system s) is in
    text_joined (codes "PUBLIC ") (quoted p ++ (codes " " ++ system_literal s)) public_word_text
    (text_joined (quoted p) (codes " " ++ system_literal s) (public_text p parts.0) (text_joined (codes " ") (system_literal s) space_text (system_text s parts.1)))
ids_are_text (PublicOnly p) is = text_joined (codes "PUBLIC ") (quoted p) public_word_text (public_text p is)

-- ---- bodies

pub spaced_text : (text : List ℕ) → IsText text → IsText (codes " " ++ text)
spaced_text text is = text_joined (codes " ") text space_text is

pub notation_chars : (n : Notation) → is_notation_kept n ≡ true → IsText (notation_body n)
notation_chars n kept =
    let parts = and_parts (is_name n.0) (are_ids n.1) kept in
    spaced_text (n.0 ++ (codes " " ++ ids_text n.1)) (text_joined n.0 (codes " " ++ ids_text n.1) (name_text n.0 parts.0) (spaced_text (ids_text n.1) (ids_are_text n.1 parts.1)))

pub element_chars : (e : Element) → IsElement e → IsText (element_body e)
element_chars e is =
    spaced_text (e.0 ++ (codes " " ++ flat e.1)) (text_joined e.0 (codes " " ++ flat e.1) (name_text e.0 is.named) (spaced_text (flat e.1) (content_text e.1 is.proper)))

-- ---- lines

abbrev pub IsTextLine : Line → Type 0
IsTextLine line = (is_declaration line.0 ≡ true) × IsText line.1

opening_text : (kind : ItemKind) → IsText (opening kind)
unfolding is_char
opening_text ElementDecl = refl
opening_text AttlistDecl = refl
opening_text EntityDecl = refl
opening_text NotationDecl = refl
opening_text Blank = refl
opening_text Comment = refl
opening_text Pi = refl
opening_text Reference = refl
opening_text SectionStart = refl

end_text : IsText (codes ">\n")
unfolding is_char
end_text = refl

pub lines_text : (lines : List Line) → AllByRecursion IsTextLine lines → IsText (concat (map written lines))
lines_text [] are = refl
lines_text (line ∷ lines) are =
    text_joined (written line) (concat (map written lines))
    (text_joined (opening line.0) (line.1 ++ codes ">\n") (opening_text line.0) (text_joined line.1 (codes ">\n") are.0.1 end_text))
    (lines_text lines are.1)

opening_begins : (kind : ItemKind) (rest : List ℕ) → is_declaration kind ≡ true → Begins (opening kind ++ rest)
opening_begins ElementDecl rest is = inr (codes "ELEMENT" ++ rest, refl)
opening_begins AttlistDecl rest is = inr (codes "ATTLIST" ++ rest, refl)
opening_begins EntityDecl rest is = inr (codes "ENTITY" ++ rest, refl)
opening_begins NotationDecl rest is = inr (codes "NOTATION" ++ rest, refl)
opening_begins Blank rest is = absurd (true≢false (sym is))
opening_begins Comment rest is = absurd (true≢false (sym is))
opening_begins Pi rest is = absurd (true≢false (sym is))
opening_begins Reference rest is = absurd (true≢false (sym is))
opening_begins SectionStart rest is = absurd (true≢false (sym is))

pub lines_begin : (lines : List Line) → AllByRecursion IsTextLine lines → Begins (concat (map written lines))
lines_begin [] are = inl refl
lines_begin (line ∷ lines) are =
    let rest = concat (map written lines) in
    rw (append_assoc (opening line.0) (line.1 ++ codes ">\n") rest) (opening_begins line.0 ((line.1 ++ codes ">\n") ++ rest) are.0.0)
