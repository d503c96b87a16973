-- The lines of general entities are read as they were declared.
use Rattle.std.proofs.Common.{◌≡◌, ◌∙◌, ℕ, List, [], ◌∷◌, ◌++◌, Bool, true, false, not, eqb, Some, None, Ok, refl, ap, sym, subst, true≢false, append_assoc, append-nil, map, bytes_eq, drop, if◌then◌else◌, option_map}
use Rattle.std.specs.Prelude.{codes, nat_eq, is_some, option_and_then}
use Rattle.std.specs.List.{list_all, starts_with}
use Rattle.std.specs.Map.{lookup}
use Rattle.std.proofs.lemmas.Bool.{and_parts, and_from, not_from_false, false_from_ne_true, eqb-true}
use Rattle.jats_chars.specs.Classes.{is_char, is_space, is_name_char, is_name_start}
use Rattle.jats_chars.specs.Names.{is_name}
use Rattle.dtd_scanner.specs.Items.{first_is, is_quote}
use Rattle.dtd_scanner.specs.References.{is_digit}
use Rattle.dtd_scanner.specs.Walk.{◌>>=◌}
use Rattle.dtd_scanner.specs.declared.item.ItemKind.TheVariants.{EntityDecl}
use Rattle.text_fronts.specs.Fronts.{read_name, word, after_word, spaced_name, read_literal}
use Rattle.text_fronts.proofs.Fronts.{stops, name_plain, word_at, after_at}
use Rattle.entity_catalog.specs.declared.ids.Ids.{Ids}
use Rattle.entity_catalog.specs.declared.ids.Ids.TheVariants.{System, Public, PublicOnly}
use Rattle.pe_expansion.specs.Expansion.{literal_of}
use Rattle.decl_set.specs.Asked.{are_apart, are_entity_ids, is_entity, is_entity_kept}
use Rattle.decl_set.specs.Declarations.{Declarations, Entity}
use Rattle.decl_set.specs.Declaring.{with_entity}
use Rattle.decl_set.specs.declared.entity.EntityDef.{EntityDef}
use Rattle.decl_set.specs.declared.entity.EntityDef.TheVariants.{Internal, External, Unparsed}
use Rattle.declaration_bodies.specs.Entities.{is_entity_value, as_value, notation_named, read_ndata, as_external, read_def, with_def, entity_behind, entity_of}
use Rattle.declaration_bodies.specs.Identifiers.{read_ids}
use Rattle.declaration_bodies.specs.declared.entities.RawDef.{RawDef}
use Rattle.declaration_bodies.specs.declared.entities.RawDef.TheVariants as raw
use Rattle.module_reader.specs.declared.standing.Standing.{Standing}
use Rattle.module_reader.specs.declared.state.State.{State}
use Rattle.module_reader.specs.Reading.{entity_declared, entity_read, declared_by, declared_as}
use Rattle.module_reader.specs.Sources.{Source}
use Rattle.dtd_flattener.specs.Flat.{escaped, is_special, quoted, ids_text, def_text, entity_body}
use Rattle.dtd_flattener.proofs.Apart.{new_name}
use Rattle.dtd_flattener.proofs.Asking.{asked}
use Rattle.dtd_flattener.proofs.Escapes.{unlike, escaped_passes, escaped_right, literal_escaped}
use Rattle.dtd_flattener.proofs.Flatness.{IsFlat, IsFlatBody, flat_plain, flat_joined, flat_body}
use Rattle.dtd_flattener.proofs.Fronts.{other_than, space_read, space_stops, name_read, spaced_name_read, quoted_read, quoted_flat, name_flat}
use Rattle.dtd_flattener.proofs.Identifiers.{ids_read, ids_flat, entity_ids_are}
use Rattle.dtd_flattener.proofs.Leading.{Leads, with_set}

-- ---- what entities stand for, as it is written

-- no `"` stands in an escaped text
pub escaped_unquoted : (test : ℕ → Bool) → test 34 ≡ true → (text : List ℕ) → list_all is_char text ≡ true → list_all (λ c. not (eqb c 34)) (escaped test text) ≡ true
escaped_unquoted test quote text all =
    escaped_passes (λ c. not (eqb c 34)) refl refl refl (λ c is. not_from_false (eqb c 34) (other_than is_digit 34 refl c is)) test
    (λ c is other. not_from_false (eqb c 34) (unlike test 34 quote c other)) text all

-- the definition as it is read
abbrev raw_of : EntityDef → RawDef
raw_of (Internal text) = raw.Value (escaped is_special text)
raw_of (External ids) = raw.External ids
raw_of (Unparsed ids notation) = raw.Unparsed ids notation

def_flat : (def : EntityDef) → is_entity def ≡ true → IsFlat (def_text def)
def_flat (Internal text) is = quoted_flat (escaped is_special text) (escaped_unquoted is_special refl text is)
def_flat (External ids) is = ids_flat ids (entity_ids_are ids is)
def_flat (Unparsed ids notation) is =
    let parts = and_parts (is_name notation) (are_entity_ids ids) is in
    flat_joined (ids_text ids) (codes " NDATA " ++ notation) (ids_flat ids (entity_ids_are ids parts.1)) (flat_joined (codes " NDATA ") notation (flat_plain (codes " NDATA ") refl) (name_flat notation parts.0))

body_flat : (e : Entity) → is_entity_kept e ≡ true → IsFlatBody (entity_body e)
body_flat e is =
    let parts = and_parts (is_name e.0) (is_entity e.1) is in
    flat_body (e.0 ++ (codes " " ++ def_text e.1))
    (flat_joined e.0 (codes " " ++ def_text e.1) (name_flat e.0 parts.0) (flat_joined (codes " ") (def_text e.1) (flat_plain (codes " ") refl) (def_flat e.1 parts.1)))

-- ---- reading

-- identifiers begin with a letter
ids_first : (ids : Ids) (rest : List ℕ) → first_is is_quote (ids_text ids ++ rest) ≡ false
ids_first (System s) rest = refl
ids_first (Public p s) rest = refl
ids_first (PublicOnly p) rest = refl

ids_stop : (ids : Ids) (rest : List ℕ) → stops is_space (ids_text ids ++ rest) ≡ true
unfolding is_space
ids_stop (System s) rest = refl
ids_stop (Public p s) rest = refl
ids_stop (PublicOnly p) rest = refl

def_stop : (def : EntityDef) → stops is_space (def_text def) ≡ true
unfolding is_space
def_stop (Internal text) = refl
def_stop (External ids) = ap (stops is_space) (sym (append-nil (ids_text ids))) ∙ ids_stop ids []
def_stop (Unparsed ids notation) = ids_stop ids (codes " NDATA " ++ notation)

ndata_word : (notation : List ℕ) → word (codes "NDATA" ++ (codes " " ++ notation)) ≡ codes "NDATA"
unfolding is_name_char
ndata_word notation = word_at (codes "NDATA") (codes " " ++ notation) refl refl

ndata_after : (notation : List ℕ) → after_word (codes "NDATA" ++ (codes " " ++ notation)) ≡ codes " " ++ notation
unfolding is_name_char
ndata_after notation = after_at (codes "NDATA") (codes " " ++ notation) refl refl

ndata_read : (ids : Ids) (notation : List ℕ) → is_name notation ≡ true → read_ndata ids (codes "NDATA " ++ notation) ≡ Some (raw.Unparsed ids notation)
ndata_read ids notation is =
    ap (λ w. if bytes_eq w (codes "NDATA") then option_and_then (notation_named ids) (spaced_name (after_word (codes "NDATA " ++ notation))) else None) (ndata_word notation)
    ∙ ap (λ t. option_and_then (notation_named ids) (spaced_name t)) (ndata_after notation ∙ ap (λ t. codes " " ++ t) (sym (append-nil notation)))
    ∙ ap (option_and_then (notation_named ids)) (spaced_name_read notation [] is refl)

-- a notation is read behind identifiers
external_read : (ids : Ids) (notation : List ℕ) → is_name notation ≡ true → as_external false (ids, codes " NDATA " ++ notation) ≡ Some (raw.Unparsed ids notation)
unfolding is_space
external_read ids notation is = ap (option_and_then (read_ndata ids)) (space_read (codes "NDATA " ++ notation) refl) ∙ ndata_read ids notation is

-- what is read where no quote begins the text
ids_def : (ids : Ids) (rest : List ℕ) → are_entity_ids ids ≡ true → read_def false (ids_text ids ++ rest) ≡ as_external false (ids, rest)
ids_def ids rest is =
    let text = ids_text ids ++ rest in
    ap (λ b. if b then option_and_then as_value (read_literal text) else option_and_then (as_external false) (read_ids text)) (ids_first ids rest) ∙ ap (option_and_then (as_external false)) (ids_read ids rest is)

def_read : (def : EntityDef) → is_entity def ≡ true → read_def false (def_text def) ≡ Some (raw_of def)
def_read (Internal text) is =
    let inside = escaped is_special text in
    ap (λ t. option_and_then as_value (read_literal t)) (sym (append-nil (quoted inside)))
    ∙ ap (option_and_then as_value) (quoted_read inside [] (escaped_unquoted is_special refl text is))
    ∙ ap (λ b. if b then Some (raw.Value inside) else None) (and_from (is_entity_value inside) true (escaped_right is_special refl refl text is) refl)
def_read (External ids) is = ap (read_def false) (sym (append-nil (ids_text ids))) ∙ ids_def ids [] is
def_read (Unparsed ids notation) is =
    let parts = and_parts (is_name notation) (are_entity_ids ids) is in
    ids_def ids (codes " NDATA " ++ notation) parts.1 ∙ external_read ids notation parts.0

-- a name does not begin with `%`
not_percent : (name rest : List ℕ) → is_name name ≡ true → starts_with nat_eq (name ++ rest) (codes "%") ≡ false
unfolding is_name_start
not_percent [] rest is = absurd (true≢false (sym is))
not_percent (c ∷ cs) rest is =
    let parts = and_parts (is_name_start c) (list_all is_name_char cs) is in
    let apart : eqb 37 c ≡ false = false_from_ne_true (eqb 37 c) (λ same. true≢false (sym parts.0 ∙ sym (ap is_name_start (eqb-true 37 c same)))) in
    rw apart refl

entity_back : (e : Entity) → is_entity_kept e ≡ true → entity_of (entity_body e) ≡ Some (record { parameter = false; name = e.0; def = raw_of e.1 })
unfolding entity_of
entity_back e is =
    let parts = and_parts (is_name e.0) (is_entity e.1) is in
    let behind = codes " " ++ def_text e.1 in
    let text = e.0 ++ behind in
    ap (option_and_then entity_behind) (space_read text (name_plain e.0 behind parts.0))
    ∙ ap (λ b. if b then option_and_then (with_def true) (spaced_name (drop 1 text)) else option_and_then (with_def false) (read_name text)) (not_percent e.0 behind parts.0)
    ∙ ap (option_and_then (with_def false)) (name_read e.0 behind parts.0 (space_stops (def_text e.1)))
    ∙ ap (λ o. option_map (λ def. record { parameter = false; name = e.0; def = def }) (option_and_then (read_def false) o)) (space_read (def_text e.1) (def_stop e.1))
    ∙ ap (option_map (λ def. record { parameter = false; name = e.0; def = def })) (def_read e.1 parts.1)

-- ---- declaring

module _ (source : Source) (base : State) (set : Declarations) where
  abbrev declaring : List Entity → State
  declaring entities = with_set base (record set { entities = entities })

  module _ (c : Standing) (at : ℕ) (done : List Entity) (name : List ℕ) where
    def_declared : (def : EntityDef) → is_entity def ≡ true → declared_by source [] c at (declaring done) name (raw_of def) ≡ Ok (declared_as (declaring done) name def)
    def_declared (Internal text) is =
        ap (λ x. x >>= λ r. Ok (declared_as (record r.0 { spent = r.1.spent }) name (Internal r.1.text)))
        (asked source c at (λ t. literal_of t.bound [] t.spent (escaped is_special text)) (declaring done) (record { text = text; spent = base.spent }) (literal_escaped is_special refl refl base.bound base.spent text is))
    def_declared (External ids) is = refl
    def_declared (Unparsed ids notation) is = refl

    added : (def : EntityDef) → lookup (bytes_eq name) done ≡ None → declared_as (declaring done) name def ≡ declaring (done ++ (name, def) ∷ [])
    unfolding with_entity
    added def new = ap (λ o. with_set base (if is_some o then record set { entities = done } else record set { entities = done ++ (name, def) ∷ [] })) new

  entity_leads : (c : Standing) (at : ℕ) (done : List Entity) (e : Entity) → is_entity_kept e ≡ true → lookup (bytes_eq e.0) done ≡ None
      → entity_declared source [] c at (declaring done) (entity_body e) ≡ Ok (declaring (done ++ e ∷ []))
  unfolding entity_declared
  entity_leads c at done e is new =
      let parts = and_parts (is_name e.0) (is_entity e.1) is in
      ap (entity_read source [] c at (declaring done)) (entity_back e is)
      ∙ ap (λ o. if is_some o then Ok (declaring done) else declared_by source [] c at (declaring done) e.0 (raw_of e.1)) new
      ∙ def_declared c at done e.0 e.1 parts.1
      ∙ ap Ok (added c at done e.0 e.1 new)

  entities_from : (done entities : List Entity) → are_apart (done ++ entities) ≡ true → list_all is_entity_kept entities ≡ true
      → Leads source (declaring done) (map (λ e. (EntityDecl, entity_body e)) entities) (declaring (done ++ entities))
  entities_from done [] apart kept = ap declaring (sym (append-nil done))
  entities_from done (e ∷ entities) apart kept =
      let parts = and_parts (is_entity_kept e) (list_all is_entity_kept entities) kept in
      let whole : (done ++ e ∷ []) ++ entities ≡ done ++ e ∷ entities = append_assoc done (e ∷ []) entities in (
        declaring (done ++ e ∷ []),
        record { kind = refl; flat = body_flat e parts.0; leads = λ c at. entity_leads c at done e parts.0 (new_name done e entities apart) },
        subst (λ (all : List Entity). Leads source (declaring (done ++ e ∷ [])) (map (λ x. (EntityDecl, entity_body x)) entities) (declaring all)) whole
            (entities_from (done ++ e ∷ []) entities (ap are_apart whole ∙ apart) parts.1),
      )

-- The lines of general entities declare them in turn.
pub entities_lead : (source : Source) (base : State) (set : Declarations) (entities : List Entity) → are_apart entities ≡ true → list_all is_entity_kept entities ≡ true
    → Leads source (with_set base (record set { entities = [] })) (map (λ e. (EntityDecl, entity_body e)) entities) (with_set base (record set { entities = entities }))
entities_lead source base set entities apart kept = entities_from source base set [] entities apart kept
