-- Texts whose special characters stand as decimal references.
use Rattle.std.proofs.Common.{◌≡◌, ◌∙◌, ◌<◌, ◌^◌, ℕ, ◌+◌, List, [], ◌∷◌, ◌++◌, length, Bool, true, false, not, eqb, ◌&&◌, Option, Some, None, Result, Ok, Err, refl, ap, sym, arith, true≢false, append_assoc, append-nil, ⊎_elim, if◌then◌else◌, option_map}
use Rattle.std.specs.Prelude.{codes, nat_le, is_some}
use Rattle.std.specs.Fmt.{decimal}
use Rattle.std.specs.List.{list_all}
use Rattle.std.proofs.lemmas.Bool.{and_parts, and_from, or_cases, eqb-true, leb-true, not-true, not_from_false, false_from_ne_true}
use Rattle.std.proofs.lemmas.List.Folds.{list_all-append}
use Rattle.jats_chars.specs.Classes.{in_row, char_rows, is_char}
use Rattle.dtd_scanner.specs.References.{char_reference, begins_reference, is_digit}
use Rattle.dtd_scanner.specs.Walk.{over}
use Rattle.dtd_scanner.proofs.Walking.{over_end}
use Rattle.attlist_merge.specs.Grammar.{is_value}
use Rattle.pe_expansion.specs.Bound.{Bound}
use Rattle.pe_expansion.specs.Expansion.{Written, with, Expanding, by_piece, expansion_step, expansion, expansion_of, literal_of}
use Rattle.pe_expansion.specs.Pieces.{literal_piece, char_piece}
use Rattle.pe_expansion.specs.declared.pieces.Kind.TheVariants.{Char}
use Rattle.pe_expansion.specs.declared.pieces.Manner.TheVariants.{Literal}
use Rattle.decl_set.specs.ValueEscaped as values
use Rattle.decl_set.specs.Values as value
use Rattle.decl_set.specs.declared.pieces.Kind.TheVariants as kind
use Rattle.decl_set.specs.declared.faults.ValueFault.{ValueFault}
use Rattle.decl_set.specs.declared.faults.ValueFault.TheVariants.{Malformed}
use Rattle.decl_set.proofs.ValueDecimals.{decimal_written}
use Rattle.decl_set.proofs.ValueEscapes.{decimal_writes}
use Rattle.declaration_bodies.specs.Entities.{is_right, is_entity_value}
use Rattle.dtd_flattener.specs.Flat.{reference_to, escaped}
use Rattle.dtd_flattener.proofs.Bodies.{over_front}
use Rattle.dtd_flattener.proofs.Fronts.{all_by}
use Rattle.dtd_flattener.proofs.TextChars.{in_all}

-- values have the same texts
pub escaped_same : (test : ℕ → Bool) (text : List ℕ) → escaped test text ≡ values.escaped test text
escaped_same test [] = refl
escaped_same test (c ∷ cs) = ap (λ t. values.escaped_char test c ++ t) (escaped_same test cs)

-- what fails a test differs from what passes
pub unlike : (test : ℕ → Bool) (d : ℕ) → test d ≡ true → (c : ℕ) → test c ≡ false → eqb c d ≡ false
unlike test d passes c fails = false_from_ne_true (eqb c d) (λ same. true≢false (sym passes ∙ sym (ap test (eqb-true c d same)) ∙ fails))

-- ---- the characters of an escaped text

char_small : (c : ℕ) → is_char c ≡ true → c < 2 ^ 64
unfolding is_char
char_small c is =
    let most : ℕ = 0x10FFFF in
    let within = in_all c char_rows ((0, most) ∷ []) refl is in
    ⊎_elim (λ here. let small = leb-true c most (and_parts (nat_le 0 c) (nat_le c most) here).1 in omega (arith, small)) (λ later. absurd (true≢false (sym later)))
    (or_cases (in_row c (0, most)) false within)

decimal_digits : (c : ℕ) → is_char c ≡ true → list_all is_digit (decimal c) ≡ true
decimal_digits c is = (decimal_written c (char_small c is)).digits

module _ (p : ℕ → Bool) (amp : p 38 ≡ true) (hash : p 35 ≡ true) (semicolon : p 59 ≡ true) (digits : (c : ℕ) → is_digit c ≡ true → p c ≡ true) where
  numeral_passes : (c : ℕ) → is_char c ≡ true → list_all p (decimal c ++ codes ";") ≡ true
  numeral_passes c is =
      list_all-append p (decimal c) (codes ";")
      ∙ and_from (list_all p (decimal c)) (p 59 && true) (all_by is_digit p digits (decimal c) (decimal_digits c is)) (and_from (p 59) true semicolon refl)

  reference_passes : (c : ℕ) → is_char c ≡ true → list_all p (reference_to c) ≡ true
  reference_passes c is =
      let rest = decimal c ++ codes ";" in
      and_from (p 38) (p 35 && list_all p rest) amp (and_from (p 35) (list_all p rest) hash (numeral_passes c is))

  pub escaped_passes : (test : ℕ → Bool) → ((c : ℕ) → is_char c ≡ true → test c ≡ false → p c ≡ true) → (text : List ℕ) → list_all is_char text ≡ true → list_all p (escaped test text) ≡ true
  escaped_passes test others [] all = refl
  escaped_passes test others (c ∷ cs) all =
      let parts = and_parts (is_char c) (list_all is_char cs) all in
      let front = if test c then reference_to c else c ∷ [] in
      list_all-append p front (escaped test cs)
      ∙ and_from (list_all p front) (list_all p (escaped test cs)) (by parts.0 (test c) refl) (escaped_passes test others cs parts.1)
    where
      by : is_char c ≡ true → (b : Bool) → test c ≡ b → list_all p (if b then reference_to c else c ∷ []) ≡ true
      by is true special = reference_passes c is
      by is false other = and_from (p c) true (others c is other) refl

-- ---- references to characters

-- the reference that a step over a value took
abbrev first_or_zero : List ℕ → ℕ
first_or_zero [] = 0
first_or_zero (c ∷ cs) = c

abbrev taken : Result (Written × ℕ) ValueFault → Option (ℕ × ℕ)
taken (Ok r) = Some (first_or_zero r.0.text, r.1)
taken (Err fault) = None

abbrev none_written : Written
none_written = record { text = []; spent = 0 }

abbrev deepest : value.Valuing
deepest names w text = Err Malformed

abbrev value_taken : List ℕ → Option (ℕ × ℕ) → Result (Written × ℕ) ValueFault
value_taken text o = value.by_piece deepest [] [] none_written text (option_map (λ r. record { kind = kind.Char r.0; len = r.1 }) o)

taken_back : (text : List ℕ) (o : Option (ℕ × ℕ)) → taken (value_taken text o) ≡ o
taken_back text None = refl
taken_back text (Some r) = refl

-- a decimal reference to a Char names it
pub reference_names : (c : ℕ) (rest : List ℕ) → is_char c ≡ true → char_reference (reference_to c ++ rest) ≡ Some (c, length (reference_to c))
unfolding value.value_piece
reference_names c rest is =
    let text = reference_to c ++ rest in
    sym (taken_back text (char_reference text)) ∙ ap taken ((decimal_writes c is).stands rest deepest [] [] 0 none_written)

-- ---- what is written so between quotes

abbrev marks_nothing : ℕ → Bool
marks_nothing c = not (eqb c 38) && not (eqb c 37)

right_front : (front rest : List ℕ) → list_all marks_nothing front ≡ true → is_entity_value (front ++ rest) ≡ is_entity_value rest
unfolding is_entity_value
right_front [] rest none = refl
right_front (c ∷ cs) rest none =
    let parts = and_parts (marks_nothing c) (list_all marks_nothing cs) none in
    let both = and_parts (not (eqb c 38)) (not (eqb c 37)) parts.0 in
    rw (not-true (eqb c 38) both.0, not-true (eqb c 37) both.1) (right_front cs rest parts.1)

digit_marks_nothing : (c : ℕ) → is_digit c ≡ true → marks_nothing c ≡ true
digit_marks_nothing c is =
    and_from (not (eqb c 38)) (not (eqb c 37))
    (not_from_false (eqb c 38) (false_from_ne_true (eqb c 38) (λ same. true≢false (sym is ∙ ap is_digit (eqb-true c 38 same)))))
    (not_from_false (eqb c 37) (false_from_ne_true (eqb c 37) (λ same. true≢false (sym is ∙ ap is_digit (eqb-true c 37 same)))))

-- a reference is right wherever it stands
right_reference : (c : ℕ) (rest : List ℕ) → is_char c ≡ true → is_entity_value (reference_to c ++ rest) ≡ is_entity_value rest
unfolding is_entity_value
right_reference c rest is =
    let inside = 35 ∷ (decimal c ++ codes ";") in
    ap (λ o. is_some o && is_entity_value (inside ++ rest)) (reference_names c rest is)
    ∙ right_front inside rest no_marks
  where
    no_marks : list_all marks_nothing (35 ∷ (decimal c ++ codes ";")) ≡ true
    no_marks =
        list_all-append marks_nothing (decimal c) (codes ";")
        ∙ and_from (list_all marks_nothing (decimal c)) true (all_by is_digit marks_nothing digit_marks_nothing (decimal c) (decimal_digits c is)) refl

-- a value of an entity is one of an attribute, too
value_right : (c : ℕ) (text : List ℕ) → is_right c text ≡ true → (if eqb c 38 then begins_reference text else true) ≡ true
value_right c text is = by (eqb c 38) refl is
  where
    by : (b : Bool) → eqb c 38 ≡ b → is_right c text ≡ true → (if b then begins_reference text else true) ≡ true
    by true same right = sym (rw same refl) ∙ right
    by false other right = refl

pub values_right : (text : List ℕ) → is_entity_value text ≡ true → is_value text ≡ true
unfolding is_entity_value is_value
values_right [] is = refl
values_right (c ∷ cs) is =
    let parts = and_parts (is_right c (c ∷ cs)) (is_entity_value cs) is in
    and_from (if eqb c 38 then begins_reference (c ∷ cs) else true) (is_value cs) (value_right c (c ∷ cs) parts.0) (values_right cs parts.1)

-- `&` and `%` are among the characters that are escaped
module _ (test : ℕ → Bool) (amp : test 38 ≡ true) (percent : test 37 ≡ true) where
  stays : (c : ℕ) → test c ≡ false → marks_nothing c ≡ true
  stays c other = and_from (not (eqb c 38)) (not (eqb c 37)) (not_from_false (eqb c 38) (unlike test 38 amp c other)) (not_from_false (eqb c 37) (unlike test 37 percent c other))

  pub escaped_right : (text : List ℕ) → list_all is_char text ≡ true → is_entity_value (escaped test text) ≡ true
  unfolding is_entity_value
  escaped_right [] all = refl
  escaped_right (c ∷ cs) all =
      let parts = and_parts (is_char c) (list_all is_char cs) all in
      by parts.0 (test c) refl ∙ escaped_right cs parts.1
    where
      by : is_char c ≡ true → (b : Bool) → test c ≡ b → is_entity_value ((if b then reference_to c else c ∷ []) ++ escaped test cs) ≡ is_entity_value (escaped test cs)
      by is true special = right_reference c (escaped test cs) is
      by is false other = right_front (c ∷ []) (escaped test cs) (and_from (marks_nothing c) true (stays c other) refl)

  -- ---- what an entity value stands for

  itself_piece : (c : ℕ) (rest : List ℕ) → test c ≡ false → literal_piece (c ∷ rest) ≡ Some (record { kind = Char c; len = 1 })
  unfolding literal_piece
  itself_piece c rest other = rw (unlike test 37 percent c other, unlike test 38 amp c other) refl

  module _ (deeper : Expanding) (bound : Bound) (names : List (List ℕ)) where
    reference_step : (at : ℕ) (w : Written) (c : ℕ) (rest : List ℕ) → is_char c ≡ true
        → expansion_step Literal deeper bound names at w (reference_to c ++ rest) ≡ Ok (with w (c ∷ []), length (reference_to c))
    unfolding literal_piece
    reference_step at w c rest is = ap (λ o. by_piece Literal deeper bound names w (reference_to c ++ rest) (option_map char_piece o)) (reference_names c rest is)

    itself_step : (at : ℕ) (w : Written) (c : ℕ) (rest : List ℕ) → test c ≡ false → expansion_step Literal deeper bound names at w ((c ∷ []) ++ rest) ≡ Ok (with w (c ∷ []), 1)
    itself_step at w c rest other = ap (by_piece Literal deeper bound names w (c ∷ rest)) (itself_piece c rest other)

    escaped_over : (at : ℕ) (w : Written) (text : List ℕ) → list_all is_char text ≡ true → over (expansion_step Literal deeper bound names) at w (escaped test text) ≡ Ok (with w text)
    escaped_over at w [] all = over_end (expansion_step Literal deeper bound names) at w [] refl ∙ ap (λ t. Ok (record { text = t; spent = w.spent })) (sym (append-nil w.text))
    escaped_over at w (c ∷ cs) all =
        let parts = and_parts (is_char c) (list_all is_char cs) all in
        let front = if test c then reference_to c else c ∷ [] in
        by parts.0 (test c) refl
        ∙ escaped_over (at + length front) (with w (c ∷ [])) cs parts.1
        ∙ ap (λ t. Ok (record { text = t; spent = w.spent })) (append_assoc w.text (c ∷ []) cs)
      where
        by : is_char c ≡ true → (b : Bool) → test c ≡ b
            → over (expansion_step Literal deeper bound names) at w ((if b then reference_to c else c ∷ []) ++ escaped test cs)
            ≡ over (expansion_step Literal deeper bound names) (at + length (if b then reference_to c else c ∷ [])) (with w (c ∷ [])) (escaped test cs)
        by is true special =
            over_front (expansion_step Literal deeper bound names) at w (reference_to c) (escaped test cs) (with w (c ∷ [])) (omega arith) (reference_step at w c (escaped test cs) is)
        by is false other =
            over_front (expansion_step Literal deeper bound names) at w (c ∷ []) (escaped test cs) (with w (c ∷ [])) (omega arith) (itself_step at w c (escaped test cs) other)

  -- An entity value that is written so stands for the text.
  pub literal_escaped : (bound : Bound) (spent : ℕ) (text : List ℕ) → list_all is_char text ≡ true → literal_of bound [] spent (escaped test text) ≡ Ok (record { text = text; spent = spent })
  unfolding expansion_of
  literal_escaped bound spent text all = escaped_over (expansion Literal 32 bound) bound [] 0 (record { text = []; spent = spent }) text all
