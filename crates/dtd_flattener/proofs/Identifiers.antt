-- Identifiers of flat texts are flat, and are read.
use Rattle.std.proofs.Common.{◌≡◌, ◌∙◌, ℕ, List, [], ◌∷◌, ◌++◌, Bool, true, false, not, eqb, ◌&&◌, ◌||◌, Some, None, refl, ap, sym, true≢false, append_assoc, append-nil, ⊎_elim, bytes_eq, if◌then◌else◌}
use Rattle.std.specs.Prelude.{codes, option_and_then, option_map}
use Rattle.std.specs.List.{list_all, list_any}
use Rattle.std.proofs.lemmas.Bool.{or_cases, eqb-true, and_parts, and_from, not-true, not_from_false}
use Rattle.jats_chars.specs.Classes.{is_space, is_name_char, is_pubid_char}
use Rattle.text_fronts.specs.Fronts.{Read, word, after_word, read_literal, spaced_literal}
use Rattle.text_fronts.proofs.Fronts.{stops, same-list, word_at, after_at}
use Rattle.entity_catalog.specs.Collapse.{collapse_public}
use Rattle.entity_catalog.specs.declared.ids.Ids.{Ids}
use Rattle.entity_catalog.specs.declared.ids.Ids.TheVariants.{System, Public, PublicOnly}
use Rattle.decl_set.specs.Asked.{are_chars, is_system, is_public, are_ids, are_entity_ids}
use Rattle.declaration_bodies.specs.Identifiers.{as_system, as_public, spaced_public, with_system, read_system, read_ids}
use Rattle.declaration_bodies.specs.Notations.{if_blank, public_ids, notation_ids}
use Rattle.dtd_flattener.specs.Flat.{quoted, system_literal, ids_text}
use Rattle.dtd_flattener.proofs.Flatness.{IsFlat, flat_plain, flat_quoted, flat_joined}
use Rattle.dtd_flattener.proofs.Fronts.{other_than, all_by, space_read, literal_read, quoted_read, quoted_flat}

-- ---- system identifiers

none_of : (q : ℕ) (text : List ℕ) → list_any (λ c. eqb c q) text ≡ false → list_all (λ c. not (eqb c q)) text ≡ true
none_of q [] none = refl
none_of q (c ∷ cs) none = by (eqb c q) refl none (λ h. none_of q cs h)
  where
    by : (b : Bool) → eqb c q ≡ b → (b || list_any (λ d. eqb d q) cs) ≡ false → (list_any (λ d. eqb d q) cs ≡ false → list_all (λ d. not (eqb d q)) cs ≡ true)
        → (not (eqb c q) && list_all (λ d. not (eqb d q)) cs) ≡ true
    by true e h later = absurd (true≢false h)
    by false e h later = and_from (not (eqb c q)) (list_all (λ d. not (eqb d q)) cs) (not_from_false (eqb c q) e) (later h)

-- what is known of a system identifier
pub record SystemIs (text : List ℕ) : Type 0 where
  pub chars : are_chars text ≡ true
  pub lines : list_all (λ c. not (eqb c 13)) text ≡ true
  pub quotes : (list_any (λ c. eqb c 34) text && list_any (λ c. eqb c 39) text) ≡ false

pub system_is : (text : List ℕ) → is_system text ≡ true → SystemIs text
system_is text is =
    let first = and_parts (are_chars text) (not (list_any (λ c. eqb c 13) text) && not (list_any (λ c. eqb c 34) text && list_any (λ c. eqb c 39) text)) is in
    let second = and_parts (not (list_any (λ c. eqb c 13) text)) (not (list_any (λ c. eqb c 34) text && list_any (λ c. eqb c 39) text)) first.1 in
    record { chars = first.0; lines = none_of 13 text (not-true (list_any (λ c. eqb c 13) text) second.0); quotes = not-true (list_any (λ c. eqb c 34) text && list_any (λ c. eqb c 39) text) second.1 }

-- without CR nothing changes
system_same : (text : List ℕ) → list_all (λ c. not (eqb c 13)) text ≡ true → as_system text ≡ text
system_same [] none = refl
system_same (c ∷ cs) none =
    let parts = and_parts (not (eqb c 13)) (list_all (λ d. not (eqb d 13)) cs) none in
    ap (λ b. (if b then 10 else c) ∷ as_system cs) (not-true (eqb c 13) parts.0) ∙ ap (λ t. c ∷ t) (system_same cs parts.1)

-- the quotes of a system literal do not stand in it
record Literal (text literal : List ℕ) : Type 0 where
  quote : ℕ
  is : eqb quote 34 || eqb quote 39 ≡ true
  none : list_all (λ c. not (eqb c quote)) text ≡ true
  form : literal ≡ quote ∷ (text ++ quote ∷ [])

literal_of : (text : List ℕ) → is_system text ≡ true → Literal text (system_literal text)
literal_of text is = by (list_any (λ c. eqb c 34) text) refl
  where
    by : (b : Bool) → list_any (λ c. eqb c 34) text ≡ b → Literal text (if b then 39 ∷ (text ++ 39 ∷ []) else quoted text)
    by true e = record { quote = 39; is = refl; none = none_of 39 text (sym (ap (λ b. b && list_any (λ c. eqb c 39) text) e) ∙ (system_is text is).quotes); form = refl }
    by false e = record { quote = 34; is = refl; none = none_of 34 text e; form = refl }

pub system_flat : (text : List ℕ) → is_system text ≡ true → IsFlat (system_literal text)
system_flat text is = let l = literal_of text is in rw l.form (flat_quoted l.quote text l.is l.none)

pub system_read : (text rest : List ℕ) → is_system text ≡ true → read_literal (system_literal text ++ rest) ≡ Some (text, rest)
system_read text rest is =
    let l = literal_of text is in
    ap (λ t. read_literal (t ++ rest)) l.form ∙ ap (λ t. read_literal (l.quote ∷ t)) (append_assoc text (l.quote ∷ []) rest) ∙ literal_read l.quote text rest l.is l.none

quote_stops : (quote : ℕ) (rest : List ℕ) → (eqb quote 34 || eqb quote 39) ≡ true → stops is_space (quote ∷ rest) ≡ true
unfolding is_space
quote_stops quote rest is =
    ⊎_elim (λ e. let same = eqb-true quote 34 e in rw same refl) (λ e. let same = eqb-true quote 39 e in rw same refl) (or_cases (eqb quote 34) (eqb quote 39) is)

system_stops : (text rest : List ℕ) → is_system text ≡ true → stops is_space (system_literal text ++ rest) ≡ true
system_stops text rest is = let l = literal_of text is in ap (λ t. stops is_space (t ++ rest)) l.form ∙ quote_stops l.quote ((text ++ l.quote ∷ []) ++ rest) l.is

-- a system literal behind a space
pub spaced_system : (text rest : List ℕ) → is_system text ≡ true → spaced_literal (codes " " ++ (system_literal text ++ rest)) ≡ Some (text, rest)
spaced_system text rest is = ap (option_and_then read_literal) (space_read (system_literal text ++ rest) (system_stops text rest is)) ∙ system_read text rest is

-- ---- public identifiers

pubid_no_quote : (c : ℕ) → is_pubid_char c ≡ true → not (eqb c 34) ≡ true
unfolding is_pubid_char
pubid_no_quote c is = not_from_false (eqb c 34) (other_than is_pubid_char 34 refl c is)

pub record PublicIs (text : List ℕ) : Type 0 where
  pub chars : list_all is_pubid_char text ≡ true
  pub same : collapse_public text ≡ text
  pub none : list_all (λ c. not (eqb c 34)) text ≡ true

pub public_is : (text : List ℕ) → is_public text ≡ true → PublicIs text
public_is text is =
    let parts = and_parts (list_all is_pubid_char text) (bytes_eq (collapse_public text) text) is in
    record { chars = parts.0; same = same-list (collapse_public text) text parts.1; none = all_by is_pubid_char (λ c. not (eqb c 34)) pubid_no_quote text parts.0 }

pub public_flat : (text : List ℕ) → is_public text ≡ true → IsFlat (quoted text)
public_flat text is = quoted_flat text (public_is text is).none

-- a public literal behind a space
pub spaced_public_read : (text rest : List ℕ) → is_public text ≡ true → spaced_public (codes " " ++ (quoted text ++ rest)) ≡ Some (text, rest)
spaced_public_read text rest is =
    let p = public_is text is in
    ap (λ o. option_and_then as_public (option_and_then read_literal o)) (space_read (quoted text ++ rest) (quote_stops 34 ((text ++ 34 ∷ []) ++ rest) refl))
    ∙ ap (option_and_then as_public) (quoted_read text rest p.none)
    ∙ ap (λ b. if b then Some (collapse_public text, rest) else None) p.chars ∙ ap (λ t. Some (t, rest)) p.same

-- ---- both

abbrev system_word : List ℕ
system_word = codes "SYSTEM"

abbrev public_word : List ℕ
public_word = codes "PUBLIC"

module _ (rest : List ℕ) where
  word_system : word (system_word ++ (codes " " ++ rest)) ≡ system_word
  unfolding is_name_char
  word_system = word_at system_word (codes " " ++ rest) refl refl

  after_system : after_word (system_word ++ (codes " " ++ rest)) ≡ codes " " ++ rest
  unfolding is_name_char
  after_system = after_at system_word (codes " " ++ rest) refl refl

  word_public : word (public_word ++ (codes " " ++ rest)) ≡ public_word
  unfolding is_name_char
  word_public = word_at public_word (codes " " ++ rest) refl refl

  after_public : after_word (public_word ++ (codes " " ++ rest)) ≡ codes " " ++ rest
  unfolding is_name_char
  after_public = after_at public_word (codes " " ++ rest) refl refl

  -- what is read behind each word
  reads_system : read_ids (system_word ++ (codes " " ++ rest)) ≡ read_system (codes " " ++ rest)
  unfolding read_ids
  reads_system = rw (word_system, after_system) refl

  reads_public : read_ids (public_word ++ (codes " " ++ rest)) ≡ option_and_then with_system (spaced_public (codes " " ++ rest))
  unfolding read_ids
  reads_public = rw (word_public, after_public) refl

  notes_system : notation_ids (system_word ++ (codes " " ++ rest)) ≡ option_and_then if_blank (read_system (codes " " ++ rest))
  notes_system = rw (word_system, after_system) refl

  notes_public : notation_ids (public_word ++ (codes " " ++ rest)) ≡ option_and_then public_ids (spaced_public (codes " " ++ rest))
  notes_public = rw (word_public, after_public) refl

system_ids : (text rest : List ℕ) → is_system text ≡ true → read_system (codes " " ++ (system_literal text ++ rest)) ≡ Some (System text, rest)
system_ids text rest is =
    ap (option_map (λ y. (System (as_system y.0), y.1))) (spaced_system text rest is) ∙ ap (λ t. Some (System t, rest)) (system_same text (system_is text is).lines)

both_ids : (public text rest : List ℕ) → is_system text ≡ true → with_system (public, codes " " ++ (system_literal text ++ rest)) ≡ Some (Public public text, rest)
both_ids public text rest is =
    ap (option_map (λ y. (Public public (as_system y.0), y.1))) (spaced_system text rest is) ∙ ap (λ t. Some (Public public t, rest)) (system_same text (system_is text is).lines)

pub ids_read : (ids : Ids) (rest : List ℕ) → are_entity_ids ids ≡ true → read_ids (ids_text ids ++ rest) ≡ Some (ids, rest)
ids_read (System s) rest is = reads_system (system_literal s ++ rest) ∙ system_ids s rest is
ids_read (Public p s) rest is =
    let parts = and_parts (is_public p) (is_system s) is in
    ap (λ t. read_ids (public_word ++ (codes " " ++ t))) (append_assoc (quoted p) (codes " " ++ system_literal s) rest)
    ∙ reads_public (quoted p ++ (codes " " ++ (system_literal s ++ rest)))
    ∙ ap (option_and_then with_system) (spaced_public_read p (codes " " ++ (system_literal s ++ rest)) parts.0)
    ∙ both_ids p s rest parts.1
ids_read (PublicOnly p) rest is = absurd (true≢false (sym is))

if_end : (ids : Ids) (o : Read Ids) → o ≡ Some (ids, []) → option_and_then if_blank o ≡ Some ids
if_end ids o is = ap (option_and_then if_blank) is

-- a space and a literal are not blank
not_blank : (s : List ℕ) → is_system s ≡ true → list_all is_space (codes " " ++ system_literal s) ≡ false
unfolding is_space
not_blank s is = let l = literal_of s is in let stop = quote_stops l.quote (s ++ l.quote ∷ []) l.is in rw (l.form, not-true (is_space l.quote) stop) refl

pub notation_ids_read : (ids : Ids) → are_ids ids ≡ true → notation_ids (ids_text ids) ≡ Some ids
notation_ids_read (System s) is =
    notes_system (system_literal s) ∙ if_end (System s) (read_system (codes " " ++ system_literal s)) (ap (λ t. read_system (codes " " ++ t)) (sym (append-nil (system_literal s))) ∙ system_ids s [] is)
notation_ids_read (Public p s) is =
    let parts = and_parts (is_public p) (is_system s) is in
    let behind = codes " " ++ system_literal s in
    let l = literal_of s parts.1 in
    notes_public (quoted p ++ behind)
    ∙ ap (option_and_then public_ids) (spaced_public_read p behind parts.0)
    ∙ ap (λ b. if b then Some (PublicOnly p) else option_and_then if_blank (with_system (p, behind))) (not_blank s parts.1)
    ∙ if_end (Public p s) (with_system (p, behind)) (ap (λ t. with_system (p, codes " " ++ t)) (sym (append-nil (system_literal s))) ∙ both_ids p s [] parts.1)
notation_ids_read (PublicOnly p) is =
    ap (λ t. notation_ids (public_word ++ (codes " " ++ t))) (sym (append-nil (quoted p))) ∙ notes_public (quoted p ++ []) ∙ ap (option_and_then public_ids) (spaced_public_read p [] is)

pub ids_flat : (ids : Ids) → are_ids ids ≡ true → IsFlat (ids_text ids)
ids_flat (System s) is = flat_joined (codes "SYSTEM ") (system_literal s) (flat_plain (codes "SYSTEM ") refl) (system_flat s is)
ids_flat (Public p s) is =
    let parts = and_parts (is_public p) (is_system s) is in
    flat_joined (codes "PUBLIC ") (quoted p ++ (codes " " ++ system_literal s)) (flat_plain (codes "PUBLIC ") refl)
    (flat_joined (quoted p) (codes " " ++ system_literal s) (public_flat p parts.0) (flat_joined (codes " ") (system_literal s) (flat_plain (codes " ") refl) (system_flat s parts.1)))
ids_flat (PublicOnly p) is = flat_joined (codes "PUBLIC ") (quoted p) (flat_plain (codes "PUBLIC ") refl) (public_flat p is)

-- the identifiers of an entity are identifiers
pub entity_ids_are : (ids : Ids) → are_entity_ids ids ≡ true → are_ids ids ≡ true
entity_ids_are (System s) is = is
entity_ids_are (Public p s) is = is
entity_ids_are (PublicOnly p) is = absurd (true≢false (sym is))
