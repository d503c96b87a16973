-- The lines of general entities are of Chars other than CR.
use Rattle.std.proofs.Common.{◌≡◌, ℕ, List, [], ◌∷◌, ◌++◌, Bool, true, false, refl}
use Rattle.std.specs.Prelude.{codes}
use Rattle.std.specs.List.{list_all}
use Rattle.std.proofs.lemmas.Bool.{and_parts, or_left}
use Rattle.jats_chars.specs.Classes.{in_row, is_char, char_rows}
use Rattle.jats_chars.specs.Names.{is_name}
use Rattle.dtd_scanner.specs.References.{is_digit}
use Rattle.decl_set.specs.Asked.{is_entity, is_entity_kept, are_entity_ids}
use Rattle.decl_set.specs.Declarations.{Entity}
use Rattle.decl_set.specs.declared.entity.EntityDef.{EntityDef}
use Rattle.decl_set.specs.declared.entity.EntityDef.TheVariants.{Internal, External, Unparsed}
use Rattle.dtd_flattener.specs.Flat.{escaped, is_special, ids_text, def_text, entity_body}
use Rattle.dtd_flattener.proofs.Characters.{IsText, quoted_text, ids_are_text, spaced_text}
use Rattle.dtd_flattener.proofs.Escapes.{unlike, escaped_passes}
use Rattle.dtd_flattener.proofs.Fronts.{other_than}
use Rattle.dtd_flattener.proofs.Identifiers.{entity_ids_are}
use Rattle.dtd_flattener.proofs.TextChars.{is_text_char, name_text, text_joined, text_char, in_all}

digit_text : (c : ℕ) → is_digit c ≡ true → is_text_char c ≡ true
unfolding is_char
digit_text c is = text_char c (in_all c ((48, 57) ∷ []) char_rows refl (or_left (in_row c (48, 57)) false is)) (other_than is_digit 13 refl c is)

-- a text in which CR is escaped
pub escaped_text : (test : ℕ → Bool) → test 13 ≡ true → (text : List ℕ) → list_all is_char text ≡ true → IsText (escaped test text)
unfolding is_char
escaped_text test return text all =
    escaped_passes is_text_char refl refl refl digit_text test (λ c is other. text_char c is (unlike test 13 return c other)) text all

data_text : IsText (codes " NDATA ")
unfolding is_char
data_text = refl

def_chars : (def : EntityDef) → is_entity def ≡ true → IsText (def_text def)
def_chars (Internal text) is = quoted_text (escaped is_special text) (escaped_text is_special refl text is)
def_chars (External ids) is = ids_are_text ids (entity_ids_are ids is)
def_chars (Unparsed ids notation) is =
    let parts = and_parts (is_name notation) (are_entity_ids ids) is in
    text_joined (ids_text ids) (codes " NDATA " ++ notation) (ids_are_text ids (entity_ids_are ids parts.1)) (text_joined (codes " NDATA ") notation data_text (name_text notation parts.0))

pub entity_chars : (e : Entity) → is_entity_kept e ≡ true → IsText (entity_body e)
entity_chars e kept =
    let parts = and_parts (is_name e.0) (is_entity e.1) kept in
    spaced_text (e.0 ++ (codes " " ++ def_text e.1)) (text_joined e.0 (codes " " ++ def_text e.1) (name_text e.0 parts.0) (spaced_text (def_text e.1) (def_chars e.1 parts.1)))
