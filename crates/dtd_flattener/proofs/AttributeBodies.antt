-- The bodies of attribute lists of one attribute are flat, and are read.
use Rattle.std.proofs.Common.{◌≡◌, ◌∙◌, ℕ, List, [], ◌∷◌, ◌++◌, Bool, true, not, eqb, ◌&&◌, Some, refl, ap, sym, true≢false, append_assoc, append-nil}
use Rattle.std.specs.Prelude.{codes}
use Rattle.std.specs.List.{list_all}
use Rattle.std.proofs.lemmas.Bool.{and_parts, and_from}
use Rattle.std.proofs.lemmas.List.Folds.{list_all-append}
use Rattle.jats_chars.specs.Classes.{is_space, is_name_char}
use Rattle.jats_chars.specs.Names.{is_name, is_nmtoken}
use Rattle.content_models.specs.Spelling.{behind, joined}
use Rattle.attribute_types.specs.Proper.{is_proper}
use Rattle.attribute_types.specs.Spacing.{is_filled}
use Rattle.attribute_types.specs.Types.{class_of_type}
use Rattle.attribute_types.specs.declared.types.AttType.{AttType}
use Rattle.attribute_types.specs.declared.types.AttType.TheVariants as kind
use Rattle.attribute_types.specs.declared.types.Preset.{Preset}
use Rattle.attribute_types.specs.declared.types.Preset.TheVariants as preset
use Rattle.attlist_merge.specs.Grammar.{AreTokens, IsGroup, IsType, IsQuoted, IsPreset, IsDefinition, IsAttlist}
use Rattle.attlist_merge.specs.Lists.{Entry}
use Rattle.attlist_merge.specs.Reading.{raw_list_of}
use Rattle.attlist_merge.specs.declared.raw.RawPreset.{RawPreset}
use Rattle.attlist_merge.specs.declared.raw.RawPreset.TheVariants as raw
use Rattle.attlist_merge.specs.declared.raw.RawAtt.{RawAtt}
use Rattle.attlist_merge.proofs.Complete.{attlist_complete}
use Rattle.text_fronts.proofs.Fronts.{nmtoken_chars}
use Rattle.decl_set.specs.Asked.{are_chars, is_definition}
use Rattle.dtd_flattener.specs.Flat.{escaped, is_special_value, quoted, group_text, type_text, preset_text, attribute_body}
use Rattle.dtd_flattener.proofs.Entities.{escaped_unquoted}
use Rattle.dtd_flattener.proofs.Escapes.{escaped_right, values_right}
use Rattle.dtd_flattener.proofs.Flatness.{is_plain, IsFlat, IsFlatBody, flat_plain, flat_joined, flat_body}
use Rattle.dtd_flattener.proofs.Fronts.{all_by, name_char_plain, name_flat, quoted_flat}

-- ---- what may be written

-- the names of a NOTATION are Names
abbrev pub has_names : AttType → Bool
has_names (kind.Notation names) = list_all is_name names
has_names other = true

-- the value of a preset is of Chars
abbrev pub is_preset_written : Preset → Bool
is_preset_written preset.Required = true
is_preset_written preset.Implied = true
is_preset_written (preset.Value text) = are_chars text
is_preset_written (preset.Fixed text) = are_chars text

-- that of a definition which a set keeps is
pub preset_written : (e : Entry) → is_definition e ≡ true → is_preset_written e.1.preset ≡ true
preset_written e is = by e.1.preset is
  where
    by : (p : Preset) → is_definition (e.0, record { kind = e.1.kind; preset = p; class = e.1.class }) ≡ true → is_preset_written p ≡ true
    by preset.Required h = refl
    by preset.Implied h = refl
    by (preset.Value text) h = (and_parts (is_name e.0) (are_chars text) h).1
    by (preset.Fixed text) h = (and_parts (is_name e.0) (are_chars text) h).1

-- what a definition of a list needs
pub record IsWritten (e : Entry) : Type 0 where
  pub named : is_name e.0 ≡ true
  pub tokens : is_proper (class_of_type e.1.kind) ≡ true
  pub preset : is_preset_written e.1.preset ≡ true

-- ---- tokens

-- tokens with `|` between them
tokens_written : (tokens : List (List ℕ)) → is_filled tokens ≡ true → list_all is_nmtoken tokens ≡ true → AreTokens (joined 124 tokens ++ codes ")") tokens
tokens_written [] some are = absurd (true≢false (sym some))
tokens_written (t ∷ []) some are =
    record { before = []; after = []; form = ap (λ w. w ++ codes ")") (append-nil t); left = refl; right = refl; is_token = (and_parts (is_nmtoken t) true are).0 }
tokens_written (t ∷ u ∷ tokens) some are =
    let parts = and_parts (is_nmtoken t) (list_all is_nmtoken (u ∷ tokens)) are in (
      joined 124 (u ∷ tokens) ++ codes ")",
      record { before = []; after = []; form = append_assoc t (124 ∷ joined 124 (u ∷ tokens)) (codes ")"); left = refl; right = refl; is_token = parts.0 },
      tokens_written (u ∷ tokens) refl parts.1,
    )

group_written : (tokens : List (List ℕ)) → is_filled tokens ≡ true → list_all is_nmtoken tokens ≡ true → IsGroup (group_text tokens) tokens
group_written tokens some are = record { inside = joined 124 tokens ++ codes ")"; form = refl; are_tokens = tokens_written tokens some are }

-- ---- types and presets

type_written : (k : AttType) → is_proper (class_of_type k) ≡ true → has_names k ≡ true → IsType (type_text k) k
unfolding is_space
type_written kind.Cdata is names = refl
type_written kind.Id is names = refl
type_written kind.Idref is names = refl
type_written kind.Idrefs is names = refl
type_written kind.Entity is names = refl
type_written kind.Entities is names = refl
type_written kind.Nmtoken is names = refl
type_written kind.Nmtokens is names = refl
type_written (kind.Notation tokens) is names =
    let parts = and_parts (is_filled tokens) (list_all is_nmtoken tokens) is in
    record { space = codes " "; group = group_text tokens; form = refl; is_space = refl; is_group = group_written tokens parts.0 parts.1; are_names = names }
type_written (kind.Enumeration tokens) is names = let parts = and_parts (is_filled tokens) (list_all is_nmtoken tokens) is in group_written tokens parts.0 parts.1

-- a preset as it is read
abbrev pub raw_preset : Preset → RawPreset
raw_preset preset.Required = raw.Required
raw_preset preset.Implied = raw.Implied
raw_preset (preset.Value text) = raw.Value (escaped is_special_value text)
raw_preset (preset.Fixed text) = raw.Fixed (escaped is_special_value text)

unquoted : (text : List ℕ) → are_chars text ≡ true → list_all (λ c. not (eqb c 34)) (escaped is_special_value text) ≡ true
unquoted text is = escaped_unquoted is_special_value refl text is

quoted_written : (text : List ℕ) → are_chars text ≡ true → IsQuoted (quoted (escaped is_special_value text)) (escaped is_special_value text)
quoted_written text is = record {
  quote = 34;
  is_quote = refl;
  form = refl;
  within = unquoted text is;
  references = values_right (escaped is_special_value text) (escaped_right is_special_value refl refl text is);
}

preset_is : (p : Preset) → is_preset_written p ≡ true → IsPreset (preset_text p) (raw_preset p)
unfolding is_space
preset_is preset.Required is = refl
preset_is preset.Implied is = refl
preset_is (preset.Value text) is = quoted_written text is
preset_is (preset.Fixed text) is =
    record { space = codes " "; quoted = quoted (escaped is_special_value text); form = refl; is_space = refl; is_quoted = quoted_written text is }

-- ---- bodies

-- a definition as it is read
abbrev pub raw_att : Entry → RawAtt
raw_att e = record { name = e.0; kind = e.1.kind; preset = raw_preset e.1.preset }

abbrev definition_text : Entry → List ℕ
definition_text e = codes " " ++ (e.0 ++ (codes " " ++ (type_text e.1.kind ++ (codes " " ++ preset_text e.1.preset))))

definition_written : (e : Entry) → IsWritten e → has_names e.1.kind ≡ true → IsDefinition (definition_text e) (raw_att e)
unfolding is_space
definition_written e is names = record {
  before = codes " ";
  middle = codes " ";
  kind = type_text e.1.kind;
  after = codes " ";
  preset = preset_text e.1.preset;
  form = refl;
  is_before = refl;
  is_name = is.named;
  is_middle = refl;
  is_kind = type_written e.1.kind is.tokens names;
  is_after = refl;
  is_preset = preset_is e.1.preset is.preset;
}

attlist_written : (element : List ℕ) (e : Entry) → is_name element ≡ true → IsWritten e → has_names e.1.kind ≡ true → IsAttlist (attribute_body element e) (record { element = element; atts = raw_att e ∷ [] })
unfolding is_space
attlist_written element e named is names = record {
  before = codes " ";
  rest = definition_text e;
  form = refl;
  is_before = refl;
  is_name = named;
  definitions = (definition_text e, [], sym (append-nil (definition_text e)), definition_written e is names, refl);
}

pub attribute_read : (element : List ℕ) (e : Entry) → is_name element ≡ true → IsWritten e → has_names e.1.kind ≡ true → raw_list_of (attribute_body element e) ≡ Some (record { element = element; atts = raw_att e ∷ [] })
attribute_read element e named is names = attlist_complete (attribute_body element e) (record { element = element; atts = raw_att e ∷ [] }) (attlist_written element e named is names)

-- ---- the characters of types

module _ (p : ℕ → Bool) (names : (c : ℕ) → is_name_char c ≡ true → p c ≡ true) (space : p 32 ≡ true) (opens : p 40 ≡ true) (closes : p 41 ≡ true) (bar : p 124 ≡ true) where
  token_passes : (w : List ℕ) → is_nmtoken w ≡ true → list_all p w ≡ true
  token_passes w is = all_by is_name_char p names w (nmtoken_chars w is)

  behind_passes : (tokens : List (List ℕ)) → list_all is_nmtoken tokens ≡ true → list_all p (behind 124 tokens) ≡ true
  behind_passes [] are = refl
  behind_passes (t ∷ tokens) are =
      let parts = and_parts (is_nmtoken t) (list_all is_nmtoken tokens) are in
      let rest = behind 124 tokens in
      and_from (p 124) (list_all p (t ++ rest)) bar (list_all-append p t rest ∙ and_from (list_all p t) (list_all p rest) (token_passes t parts.0) (behind_passes tokens parts.1))

  joined_passes : (tokens : List (List ℕ)) → list_all is_nmtoken tokens ≡ true → list_all p (joined 124 tokens) ≡ true
  joined_passes [] are = refl
  joined_passes (t ∷ tokens) are =
      let parts = and_parts (is_nmtoken t) (list_all is_nmtoken tokens) are in
      let rest = behind 124 tokens in
      list_all-append p t rest ∙ and_from (list_all p t) (list_all p rest) (token_passes t parts.0) (behind_passes tokens parts.1)

  group_passes : (tokens : List (List ℕ)) → list_all is_nmtoken tokens ≡ true → list_all p (group_text tokens) ≡ true
  group_passes tokens are =
      let inside = joined 124 tokens in
      and_from (p 40) (list_all p (inside ++ codes ")")) opens
      (list_all-append p inside (codes ")") ∙ and_from (list_all p inside) (p 41 && true) (joined_passes tokens are) (and_from (p 41) true closes refl))

  -- the characters of a keyword, with what follows
  keyword_passes : (word : List ℕ) → list_all is_name_char word ≡ true → list_all p word ≡ true
  keyword_passes word are = all_by is_name_char p names word are

  pub type_passes : (k : AttType) → is_proper (class_of_type k) ≡ true → list_all p (type_text k) ≡ true
  unfolding is_name_char
  type_passes kind.Cdata is = keyword_passes (codes "CDATA") refl
  type_passes kind.Id is = keyword_passes (codes "ID") refl
  type_passes kind.Idref is = keyword_passes (codes "IDREF") refl
  type_passes kind.Idrefs is = keyword_passes (codes "IDREFS") refl
  type_passes kind.Entity is = keyword_passes (codes "ENTITY") refl
  type_passes kind.Entities is = keyword_passes (codes "ENTITIES") refl
  type_passes kind.Nmtoken is = keyword_passes (codes "NMTOKEN") refl
  type_passes kind.Nmtokens is = keyword_passes (codes "NMTOKENS") refl
  type_passes (kind.Notation tokens) is =
      let parts = and_parts (is_filled tokens) (list_all is_nmtoken tokens) is in
      let group = group_text tokens in
      list_all-append p (codes "NOTATION") (32 ∷ group)
      ∙ and_from (list_all p (codes "NOTATION")) (p 32 && list_all p group) (keyword_passes (codes "NOTATION") refl)
      (and_from (p 32) (list_all p group) space (group_passes tokens parts.1))
  type_passes (kind.Enumeration tokens) is = group_passes tokens (and_parts (is_filled tokens) (list_all is_nmtoken tokens) is).1

-- ---- flatness

type_flat : (k : AttType) → is_proper (class_of_type k) ≡ true → IsFlat (type_text k)
type_flat k is = flat_plain (type_text k) (type_passes is_plain name_char_plain refl refl refl refl k is)

value_flat : (text : List ℕ) → are_chars text ≡ true → IsFlat (quoted (escaped is_special_value text))
value_flat text is = quoted_flat (escaped is_special_value text) (unquoted text is)

preset_flat : (p : Preset) → is_preset_written p ≡ true → IsFlat (preset_text p)
preset_flat preset.Required is = flat_plain (codes "#REQUIRED") refl
preset_flat preset.Implied is = flat_plain (codes "#IMPLIED") refl
preset_flat (preset.Value text) is = value_flat text is
preset_flat (preset.Fixed text) is = flat_joined (codes "#FIXED ") (quoted (escaped is_special_value text)) (flat_plain (codes "#FIXED ") refl) (value_flat text is)

spaced_flat : (text : List ℕ) → IsFlat text → IsFlat (codes " " ++ text)
spaced_flat text is = flat_joined (codes " ") text (flat_plain (codes " ") refl) is

pub attribute_flat : (element : List ℕ) (e : Entry) → is_name element ≡ true → IsWritten e → IsFlatBody (attribute_body element e)
attribute_flat element e named is =
    let last = codes " " ++ preset_text e.1.preset in
    let types = codes " " ++ (type_text e.1.kind ++ last) in
    flat_body (element ++ (codes " " ++ (e.0 ++ types)))
    (flat_joined element (codes " " ++ (e.0 ++ types)) (name_flat element named)
    (spaced_flat (e.0 ++ types) (flat_joined e.0 types (name_flat e.0 is.named)
    (spaced_flat (type_text e.1.kind ++ last) (flat_joined (type_text e.1.kind) last (type_flat e.1.kind is.tokens)
    (spaced_flat (preset_text e.1.preset) (preset_flat e.1.preset is.preset)))))))
