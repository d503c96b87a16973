-- What reading gives of a declaration of attributes.
use Rattle.std.proofs.Common.{◌≡◌, ◌∙◌, ℕ, true, ◌&&◌, List, [], ◌∷◌, ◌++◌, refl, sym, ap, codes, IsTrue}
use Rattle.std.specs.List.{list_all, AllByRecursion}
use Rattle.std.specs.Option.{option_map_or}
use Rattle.std.proofs.lemmas.Bool.{and_parts, and_from}
use Rattle.std.proofs.lemmas.List.Folds.{list_all-append}
use Rattle.jats_chars.specs.Classes.{is_char}
use Rattle.jats_chars.specs.Names.{is_name, is_nmtoken}
use Rattle.attribute_types.specs.Proper.{IsProper}
use Rattle.attribute_types.specs.Spacing.{is_filled}
use Rattle.attribute_types.specs.Types.{class_of_type}
use Rattle.attribute_types.specs.declared.types.AttType.{AttType}
use Rattle.attribute_types.specs.declared.types.AttType.TheVariants as kind
use Rattle.attlist_merge.specs.declared.raw.RawPreset.{RawPreset}
use Rattle.attlist_merge.specs.declared.raw.RawPreset.TheVariants as preset
use Rattle.attlist_merge.specs.declared.raw.RawAtt.{RawAtt}
use Rattle.attlist_merge.specs.declared.raw.RawAttList.{RawAttList}
use Rattle.attlist_merge.specs.Grammar.{AreTokens, IsType, IsQuoted, IsPreset, IsDefinition, AreDefinitions}
use Rattle.attlist_merge.proofs.Sound.{attlist_sound}
use Rattle.decl_set.specs.Asked.{are_chars, IsRead}
use Rattle.decl_set.specs.AttributeSteps.{IsWellRead, written_in}

-- ---- parts of a text of Chars

front_chars : (a b : List ℕ) → are_chars (a ++ b) ≡ true → are_chars a ≡ true
front_chars a b all = (and_parts (are_chars a) (are_chars b) (sym (list_all-append is_char a b) ∙ all)).0

rest_chars : (a b : List ℕ) → are_chars (a ++ b) ≡ true → are_chars b ≡ true
rest_chars a b all = (and_parts (are_chars a) (are_chars b) (sym (list_all-append is_char a b) ∙ all)).1

-- the same of a text that has that form
front_of : (t a b : List ℕ) → t ≡ a ++ b → are_chars t ≡ true → are_chars a ≡ true
front_of t a b form all = front_chars a b (ap are_chars (sym form) ∙ all)

rest_of : (t a b : List ℕ) → t ≡ a ++ b → are_chars t ≡ true → are_chars b ≡ true
rest_of t a b form all = rest_chars a b (ap are_chars (sym form) ∙ all)

-- ---- types

tokens_read : (text : List ℕ) (tokens : List (List ℕ)) → AreTokens text tokens → (is_filled tokens && list_all is_nmtoken tokens) ≡ true
tokens_read text [] h = absurd h
tokens_read text (t ∷ []) h = and_from (is_nmtoken t) true h.is_token refl
tokens_read text (t ∷ u ∷ ts) h = and_from (is_nmtoken t) (list_all is_nmtoken (u ∷ ts)) h.1.is_token (tokens_read h.0 (u ∷ ts) h.2)

type_read : (text : List ℕ) (k : AttType) → IsType text k → IsProper (class_of_type k)
type_read text kind.Cdata h = refl
type_read text kind.Id h = refl
type_read text kind.Idref h = refl
type_read text kind.Idrefs h = refl
type_read text kind.Entity h = refl
type_read text kind.Entities h = refl
type_read text kind.Nmtoken h = refl
type_read text kind.Nmtokens h = refl
type_read text (kind.Notation names) h = tokens_read h.is_group.inside names h.is_group.are_tokens
type_read text (kind.Enumeration tokens) h = tokens_read h.inside tokens h.are_tokens

-- ---- presets

quoted_read : (text value : List ℕ) → IsQuoted text value → are_chars text ≡ true → are_chars value ≡ true
quoted_read text value h all = front_chars value (h.quote ∷ []) (rest_of text (h.quote ∷ []) (value ++ h.quote ∷ []) h.form all)

preset_read : (text : List ℕ) (p : RawPreset) → IsPreset text p → are_chars text ≡ true → option_map_or are_chars (written_in p) true ≡ true
preset_read text preset.Required h all = refl
preset_read text preset.Implied h all = refl
preset_read text (preset.Value value) h all = quoted_read text value h all
preset_read text (preset.Fixed value) h all =
    quoted_read h.quoted value h.is_quoted (rest_chars h.space h.quoted (rest_of text (codes "#FIXED") (h.space ++ h.quoted) h.form all))

-- ---- definitions

definition_read : (text : List ℕ) (a : RawAtt) → IsDefinition text a → are_chars text ≡ true → IsWellRead a
definition_read text a h all =
    let named = rest_of text h.before (a.name ++ (h.middle ++ (h.kind ++ (h.after ++ h.preset)))) h.form all in
    let typed = rest_chars h.middle (h.kind ++ (h.after ++ h.preset)) (rest_chars a.name (h.middle ++ (h.kind ++ (h.after ++ h.preset))) named) in
    record {
      named = h.is_name;
      tokens = type_read h.kind a.kind h.is_kind;
      chars = preset_read h.preset a.preset h.is_preset (rest_chars h.after h.preset (rest_chars h.kind (h.after ++ h.preset) typed));
    }

definitions_read : (text : List ℕ) (atts : List RawAtt) → AreDefinitions text atts → are_chars text ≡ true → AllByRecursion IsWellRead atts
definitions_read text [] h all = tt
definitions_read text (a ∷ atts) h all =
    (definition_read h.0 a h.3 (front_of text h.0 h.1 h.2 all), definitions_read h.1 atts h.4 (rest_of text h.0 h.1 h.2 all))

-- the element is a Name, and each definition is well read
pub list_read : (raw : RawAttList) → IsRead raw → IsTrue (is_name raw.element) × AllByRecursion IsWellRead raw.atts
list_read raw h =
    let form = attlist_sound h.0 raw h.2 in
    (form.is_name, definitions_read form.rest raw.atts form.definitions (rest_chars raw.element form.rest (rest_of h.0 form.before (raw.element ++ form.rest) form.form h.1)))
