-- What is written is read.
use Rattle.std.proofs.Common.{◌≡◌, ◌∙◌, ℕ, Bool, true, false, List, [], ◌∷◌, ◌++◌, drop, refl, sym, ap, Some, None, bytes_eq, true≢false}
use Rattle.std.specs.Prelude.{option_and_then, option_map, if◌then◌else◌, ◌&&◌, codes, nat_eq, not}
use Rattle.std.specs.List.{list_all, starts_with}
use Rattle.std.proofs.lemmas.List.{append_assoc}
use Rattle.std.proofs.lemmas.Bool.{and_from, false_from_ne_true}
use Rattle.jats_chars.specs.Classes.{is_space, is_name_start, is_name_char}
use Rattle.jats_chars.specs.Names.{is_name}
use Rattle.dtd_scanner.specs.Items.{first_is, is_quote}
use Rattle.text_fronts.specs.Fronts.{is_blank, trimmed_end, word, after_word, read_space, read_name, spaced_name, read_literal, spaced_literal}
use Rattle.text_fronts.specs.Grammar.{IsBlank, IsSpace}
use Rattle.text_fronts.proofs.Fronts.{and-left, stops, name_plain, word_at, after_at, name_not_blank}
use Rattle.text_fronts.proofs.Ends.{trimmed_blank}
use Rattle.text_fronts.proofs.Sound.{same}
use Rattle.text_fronts.proofs.Complete.{space_back, space_more, space_stop, blank_stop, name_back, spaced_name_back, literal_form, literal_back, literal_plain, spaced_literal_back}
use Rattle.entity_catalog.specs.Collapse.{collapse_public}
use Rattle.entity_catalog.specs.declared.ids.Ids.{Ids}
use Rattle.entity_catalog.specs.declared.ids.Ids.TheVariants.{System, Public, PublicOnly}
use Rattle.declaration_bodies.specs.declared.entities.RawDef.{RawDef}
use Rattle.declaration_bodies.specs.declared.entities.RawDef.TheVariants.{Value, External, Unparsed}
use Rattle.declaration_bodies.specs.declared.entities.RawEntity.{RawEntity}
use Rattle.declaration_bodies.specs.Elements.{with_content, element_of}
use Rattle.declaration_bodies.specs.Identifiers.{as_system, as_public, spaced_public, with_system, read_system, read_ids}
use Rattle.declaration_bodies.specs.Entities.{is_entity_value, as_value, notation_named, read_ndata, as_external, read_def, with_def, entity_behind, entity_of}
use Rattle.declaration_bodies.specs.Notations.{if_blank, public_ids, notation_ids, with_ids, notation_of}
use Rattle.declaration_bodies.specs.Grammar.{IsElement, IsSystem, IsPublic, IsSystemId, IsPublicId, IsPublicSystemId, IsExternal, IsNotationId, IsEntityValue, IsUnparsed, IsDef, IsEntity, IsNotation}

-- ---- elements

pub element_complete : (body name content : List ℕ) → IsElement body name content → element_of body ≡ Some (name, content)
unfolding element_of
element_complete body name content h =
    let behind = h.middle ++ (content ++ h.after) in
    ap element_of h.form
    ∙ ap (option_and_then with_content) (spaced_name_back h.before name behind h.is_before h.is_named (space_stop h.middle (content ++ h.after) h.is_middle))
    ∙ ap (option_map (λ c. (name, trimmed_end c))) (space_more h.middle (content ++ h.after) h.is_middle)
    ∙ ap (λ c. Some (name, c)) (trimmed_blank content h.after h.is_after ∙ h.is_content)

-- ---- identifiers

module _ (a l r : List ℕ) (space : IsSpace a) where
  literal_behind : (system : List ℕ) → (h : IsSystem l system) → spaced_literal (a ++ (l ++ r)) ≡ Some (h.inside, r)
  literal_behind system h = spaced_literal_back a l r h.inside space h.literal

  system_behind : (system : List ℕ) → IsSystem l system → read_system (a ++ (l ++ r)) ≡ Some (System system, r)
  system_behind system h = ap (option_map (λ y. (System (as_system y.0), y.1))) (literal_behind system h) ∙ ap (λ k. Some (System k, r)) (sym h.same)

  both_behind : (public system : List ℕ) → IsSystem l system → with_system (public, a ++ (l ++ r)) ≡ Some (Public public system, r)
  both_behind public system h = ap (option_map (λ y. (Public public (as_system y.0), y.1))) (literal_behind system h) ∙ ap (λ k. Some (Public public k, r)) (sym h.same)

  public_behind : (public : List ℕ) → IsPublic l public → spaced_public (a ++ (l ++ r)) ≡ Some (public, r)
  public_behind public h =
      ap (option_and_then as_public) (spaced_literal_back a l r h.inside space h.literal)
      ∙ ap (λ b. if b then Some (collapse_public h.inside, r) else None) h.chars ∙ ap (λ k. Some (k, r)) (sym h.same)

abbrev system_word : List ℕ
system_word = codes "SYSTEM"

abbrev public_word : List ℕ
public_word = codes "PUBLIC"

module _ (s r : List ℕ) (space : IsSpace s) where
  word_is : (w : List ℕ) → list_all is_name_char w ≡ true → word (w ++ (s ++ r)) ≡ w
  word_is w chars = word_at w (s ++ r) chars (space_stop s r space)

  after_is : (w : List ℕ) → list_all is_name_char w ≡ true → after_word (w ++ (s ++ r)) ≡ s ++ r
  after_is w chars = after_at w (s ++ r) chars (space_stop s r space)

  -- what is read behind each word
  reads_system : read_ids (system_word ++ (s ++ r)) ≡ read_system (s ++ r)
  unfolding read_ids is_name_char
  reads_system = rw (word_is system_word refl, after_is system_word refl) refl

  reads_public : read_ids (public_word ++ (s ++ r)) ≡ option_and_then with_system (spaced_public (s ++ r))
  unfolding read_ids is_name_char
  reads_public = rw (word_is public_word refl, after_is public_word refl) refl

  notes_system : notation_ids (system_word ++ (s ++ r)) ≡ option_and_then if_blank (read_system (s ++ r))
  unfolding is_name_char
  notes_system = rw (word_is system_word refl, after_is system_word refl) refl

  notes_public : notation_ids (public_word ++ (s ++ r)) ≡ option_and_then public_ids (spaced_public (s ++ r))
  unfolding is_name_char
  notes_public = rw (word_is public_word refl, after_is public_word refl) refl

system_form : (t r system : List ℕ) → (h : IsSystemId t system) → t ++ r ≡ system_word ++ (h.space ++ (h.literal ++ r))
system_form t r system h = ap (λ k. k ++ r) h.form ∙ simp append_assoc

public_form : (t r public : List ℕ) → (h : IsPublicId t public) → t ++ r ≡ public_word ++ (h.space ++ (h.literal ++ r))
public_form t r public h = ap (λ k. k ++ r) h.form ∙ simp append_assoc

both_form : (t r public system : List ℕ) → (h : IsPublicSystemId t public system) → t ++ r ≡ public_word ++ (h.is_front.space ++ (h.is_front.literal ++ (h.space ++ (h.literal ++ r))))
both_form t r public system h =
    ap (λ k. k ++ r) h.form ∙ append_assoc h.front (h.space ++ h.literal) r ∙ ap (λ k. h.front ++ k) (append_assoc h.space h.literal r)
    ∙ public_form h.front (h.space ++ (h.literal ++ r)) public h.is_front

pub ids_back : (ids : Ids) (t r : List ℕ) → IsExternal t ids → read_ids (t ++ r) ≡ Some (ids, r)
ids_back (System system) t r h =
    ap read_ids (system_form t r system h) ∙ reads_system h.space (h.literal ++ r) h.is_space ∙ system_behind h.space h.literal r h.is_space system h.is_system
ids_back (Public public system) t r h =
    let p = h.is_front in
    let behind = h.space ++ (h.literal ++ r) in
    ap read_ids (both_form t r public system h) ∙ reads_public p.space (p.literal ++ behind) p.is_space
    ∙ ap (option_and_then with_system) (public_behind p.space p.literal behind p.is_space public p.is_public)
    ∙ both_behind h.space h.literal r h.is_space public system h.is_system
ids_back (PublicOnly public) t r h = absurd h

-- ---- notations

if_ended : (ids : Ids) (r : List ℕ) → IsBlank r → if_blank (ids, r) ≡ Some ids
if_ended ids r h = ap (λ b. if b then Some ids else None) h

-- white space and a literal are not white space alone
not_blank : (a l r : List ℕ) (system : List ℕ) → IsSystem l system → list_all is_space (a ++ (l ++ r)) ≡ false
not_blank a l r system h = by a
  where
    literal_first : list_all is_space (l ++ r) ≡ false
    literal_first =
        false_from_ne_true (list_all is_space (l ++ r))
        (λ e. first (l ++ r) (literal_plain l r h.inside h.literal) (ap (first_is is_quote) (literal_form l r h.inside h.literal) ∙ h.literal.is_quote) e)
      where
        first : (t : List ℕ) → stops is_space t ≡ true → first_is is_quote t ≡ true → list_all is_space t ≡ true → ⊥
        first [] s q e = true≢false (sym q)
        first (c ∷ t) s q e = true≢false (sym s ∙ ap not (and-left (is_space c) (list_all is_space t) e))

    by : (a : List ℕ) → list_all is_space (a ++ (l ++ r)) ≡ false
    by [] = literal_first
    by (c ∷ a) = ap (λ b. is_space c && b) (by a) ∙ no (is_space c)
      where
        no : (b : Bool) → (b && false) ≡ false
        no true = refl
        no false = refl

notation_ids_back : (ids : Ids) (t r : List ℕ) → IsNotationId t ids → IsBlank r → notation_ids (t ++ r) ≡ Some ids
notation_ids_back (System system) t r h b =
    ap notation_ids (system_form t r system h) ∙ notes_system h.space (h.literal ++ r) h.is_space
    ∙ ap (option_and_then if_blank) (system_behind h.space h.literal r h.is_space system h.is_system) ∙ if_ended (System system) r b
notation_ids_back (Public public system) t r h b =
    let p = h.is_front in
    let behind = h.space ++ (h.literal ++ r) in
    ap notation_ids (both_form t r public system h) ∙ notes_public p.space (p.literal ++ behind) p.is_space
    ∙ ap (option_and_then public_ids) (public_behind p.space p.literal behind p.is_space public p.is_public)
    ∙ ap (λ b. if b then Some (PublicOnly public) else option_and_then if_blank (with_system (public, behind))) (not_blank h.space h.literal r system h.is_system)
    ∙ ap (option_and_then if_blank) (both_behind h.space h.literal r h.is_space public system h.is_system) ∙ if_ended (Public public system) r b
notation_ids_back (PublicOnly public) t r h b =
    ap notation_ids (public_form t r public h) ∙ notes_public h.space (h.literal ++ r) h.is_space
    ∙ ap (option_and_then public_ids) (public_behind h.space h.literal r h.is_space public h.is_public)
    ∙ ap (λ b. if b then Some (PublicOnly public) else option_and_then if_blank (with_system (public, r))) b

-- identifiers begin with a letter
notation_ids_plain : (ids : Ids) (t r : List ℕ) → IsNotationId t ids → stops is_space (t ++ r) ≡ true
unfolding is_space
notation_ids_plain (System system) t r h = ap (stops is_space) (system_form t r system h)
notation_ids_plain (Public public system) t r h = ap (stops is_space) (both_form t r public system h)
notation_ids_plain (PublicOnly public) t r h = ap (stops is_space) (public_form t r public h)

pub notation_complete : (body name : List ℕ) (ids : Ids) → IsNotation body name ids → notation_of body ≡ Some (name, ids)
unfolding notation_of
notation_complete body name ids h =
    let behind = h.middle ++ (h.text ++ h.after) in
    ap notation_of h.form
    ∙ ap (option_and_then with_ids) (spaced_name_back h.before name behind h.is_before h.is_named (space_stop h.middle (h.text ++ h.after) h.is_middle))
    ∙ ap (λ o. option_map (λ ids. (name, ids)) (option_and_then notation_ids o)) (space_back h.middle (h.text ++ h.after) h.is_middle (notation_ids_plain ids h.text h.after h.is_ids))
    ∙ ap (option_map (λ ids. (name, ids))) (notation_ids_back ids h.text h.after h.is_ids h.is_after)

-- ---- entities

external_first : (ids : Ids) (t r : List ℕ) → IsExternal t ids → first_is is_quote (t ++ r) ≡ false
external_first (System system) t r h = ap (first_is is_quote) (system_form t r system h)
external_first (Public public system) t r h = ap (first_is is_quote) (both_form t r public system h)
external_first (PublicOnly public) t r h = absurd h

external_plain : (ids : Ids) (t r : List ℕ) → IsExternal t ids → stops is_space (t ++ r) ≡ true
unfolding is_space
external_plain (System system) t r h = ap (stops is_space) (system_form t r system h)
external_plain (Public public system) t r h = ap (stops is_space) (both_form t r public system h)
external_plain (PublicOnly public) t r h = absurd h

unparsed_form : (t r : List ℕ) (ids : Ids) (notation : List ℕ) → (h : IsUnparsed t ids notation) → t ++ r ≡ h.external ++ (h.before ++ (codes "NDATA" ++ (h.middle ++ (notation ++ r))))
unparsed_form t r ids notation h = ap (λ k. k ++ r) h.form ∙ simp append_assoc

-- what is declared begins without white space
def_plain : (parameter : Bool) (d : RawDef) (t r : List ℕ) → IsDef parameter t d → stops is_space (t ++ r) ≡ true
def_plain parameter (Value value) t r h = literal_plain t r value h.literal
def_plain parameter (External ids) t r h = external_plain ids t r h
def_plain true (Unparsed ids notation) t r h = absurd h
def_plain false (Unparsed ids notation) t r h =
    ap (stops is_space) (unparsed_form t r ids notation h) ∙ external_plain ids h.external (h.before ++ (codes "NDATA" ++ (h.middle ++ (notation ++ r)))) h.is_external

external_def : (parameter : Bool) (ids : Ids) (t r : List ℕ) → IsExternal t ids → read_def parameter (t ++ r) ≡ as_external parameter (ids, r)
external_def parameter ids t r h =
    ap (λ b. if b then option_and_then as_value (read_literal (t ++ r)) else option_and_then (as_external parameter) (read_ids (t ++ r))) (external_first ids t r h)
    ∙ ap (option_and_then (as_external parameter)) (ids_back ids t r h)

value_def : (parameter : Bool) (value t r : List ℕ) → IsEntityValue t value → IsBlank r → read_def parameter (t ++ r) ≡ Some (Value value)
value_def parameter value t r h b =
    ap (λ b. if b then option_and_then as_value (read_literal (t ++ r)) else option_and_then (as_external parameter) (read_ids (t ++ r))) (ap (first_is is_quote) (literal_form t r value h.literal) ∙ h.literal.is_quote)
    ∙ ap (option_and_then as_value) (literal_back t r value h.literal)
    ∙ ap (λ b. if b then Some (Value value) else None) (and_from (is_entity_value value) (is_blank r) h.references b)

ndata_name : is_name (codes "NDATA") ≡ true
unfolding is_name_start is_name_char
ndata_name = refl

ndata_chars : list_all is_name_char (codes "NDATA") ≡ true
unfolding is_name_char
ndata_chars = refl

ndata_def : (ids : Ids) (notation middle r : List ℕ) → IsSpace middle → is_name notation ≡ true → IsBlank r → read_ndata ids (codes "NDATA" ++ (middle ++ (notation ++ r))) ≡ Some (Unparsed ids notation)
ndata_def ids notation middle r s n b =
    let rest = middle ++ (notation ++ r) in
    let t = codes "NDATA" ++ rest in
    ap (λ w. if bytes_eq w (codes "NDATA") then option_and_then (notation_named ids) (spaced_name (after_word t)) else None) (word_is middle (notation ++ r) s (codes "NDATA") ndata_chars)
    ∙ ap (λ t. option_and_then (notation_named ids) (spaced_name t)) (after_is middle (notation ++ r) s (codes "NDATA") ndata_chars)
    ∙ ap (option_and_then (notation_named ids)) (spaced_name_back middle notation r s n (blank_stop r b))
    ∙ ap (λ b. if b then Some (Unparsed ids notation) else None) b

def_back : (parameter : Bool) (d : RawDef) (t r : List ℕ) → IsDef parameter t d → IsBlank r → read_def parameter (t ++ r) ≡ Some d
def_back parameter (Value value) t r h b = value_def parameter value t r h b
def_back parameter (External ids) t r h b =
    external_def parameter ids t r h ∙ ap (λ b. if b then Some (External ids) else (if parameter then None else option_and_then (read_ndata ids) (read_space r))) b
def_back true (Unparsed ids notation) t r h b = absurd h
def_back false (Unparsed ids notation) t r h b =
    let named = h.middle ++ (notation ++ r) in
    let rest = h.before ++ (codes "NDATA" ++ named) in
    ap (read_def false) (unparsed_form t r ids notation h)
    ∙ external_def false ids h.external rest h.is_external
    ∙ ap (λ b. if b then Some (External ids) else option_and_then (read_ndata ids) (read_space rest)) (name_not_blank h.before (codes "NDATA") named ndata_name)
    ∙ ap (option_and_then (read_ndata ids)) (space_back h.before (codes "NDATA" ++ named) h.is_before (name_plain (codes "NDATA") named ndata_name))
    ∙ ndata_def ids notation h.middle r h.is_middle h.is_named b

-- a name does not begin with `%`
no_percent : (w r : List ℕ) → is_name w ≡ true → starts_with nat_eq (w ++ r) (codes "%") ≡ false
unfolding is_name_start
no_percent [] r h = absurd (true≢false (sym h))
no_percent (c ∷ w) r h =
    false_from_ne_true (starts_with nat_eq ((c ∷ w) ++ r) (codes "%"))
    (λ e. let is : c ≡ 37 = sym (same 37 c (and-left (nat_eq 37 c) true e)) in true≢false (sym (and-left (is_name_start c) (list_all is_name_char w) h) ∙ ap is_name_start is))

module _ (parameter : Bool) (name middle def after : List ℕ) (d : RawDef) (s : IsSpace middle) (h : IsDef parameter def d) (b : IsBlank after) where
  with_def_back : with_def parameter (name, middle ++ (def ++ after)) ≡ Some (record { parameter = parameter; name = name; def = d })
  with_def_back =
      let made : RawDef → RawEntity = λ d. record { parameter = parameter; name = name; def = d } in
      ap (λ o. option_map made (option_and_then (read_def parameter) o)) (space_back middle (def ++ after) s (def_plain parameter d def after h))
      ∙ ap (option_map made) (def_back parameter d def after h b)

parameter_back : (body name : List ℕ) (d : RawDef) → IsEntity body (record { parameter = true; name = name; def = d }) → entity_of body ≡ Some (record { parameter = true; name = name; def = d })
unfolding entity_of is_space
parameter_back body name d h =
    let behind = h.middle ++ (h.def ++ h.after) in
    let m = h.is_mark in
    let text = codes "%" ++ (m.0 ++ (name ++ behind)) in
    let form : h.mark ++ (name ++ behind) ≡ text = ap (λ k. k ++ (name ++ behind)) m.1 in
    ap entity_of (h.form ∙ ap (λ k. h.before ++ k) form)
    ∙ ap (option_and_then entity_behind) (space_back h.before text h.is_before refl)
    ∙ ap (option_and_then (with_def true)) (spaced_name_back m.0 name behind m.2 h.is_named (space_stop h.middle (h.def ++ h.after) h.is_middle))
    ∙ with_def_back true name h.middle h.def h.after d h.is_middle h.is_def h.is_after

general_back : (body name : List ℕ) (d : RawDef) → IsEntity body (record { parameter = false; name = name; def = d }) → entity_of body ≡ Some (record { parameter = false; name = name; def = d })
unfolding entity_of
general_back body name d h =
    let behind = h.middle ++ (h.def ++ h.after) in
    let text = name ++ behind in
    let form : h.mark ++ text ≡ text = ap (λ k. k ++ text) h.is_mark in
    ap entity_of (h.form ∙ ap (λ k. h.before ++ k) form)
    ∙ ap (option_and_then entity_behind) (space_back h.before text h.is_before (name_plain name behind h.is_named))
    ∙ ap (λ b. if b then option_and_then (with_def true) (spaced_name (drop 1 text)) else option_and_then (with_def false) (read_name text)) (no_percent name behind h.is_named)
    ∙ ap (option_and_then (with_def false)) (name_back name behind h.is_named (space_stop h.middle (h.def ++ h.after) h.is_middle))
    ∙ with_def_back false name h.middle h.def h.after d h.is_middle h.is_def h.is_after

pub entity_complete : (body : List ℕ) (e : RawEntity) → IsEntity body e → entity_of body ≡ Some e
entity_complete body e h = by e.parameter h
  where
    by : (p : Bool) → IsEntity body (record { parameter = p; name = e.name; def = e.def }) → entity_of body ≡ Some (record { parameter = p; name = e.name; def = e.def })
    by true h = parameter_back body e.name e.def h
    by false h = general_back body e.name e.def h
