-- The lines of attribute lists are of Chars other than CR.
use Rattle.std.proofs.Common.{◌≡◌, ℕ, List, [], ◌∷◌, ◌++◌, map, true, refl}
use Rattle.std.specs.Prelude.{codes}
use Rattle.std.specs.List.{AllByRecursion}
use Rattle.jats_chars.specs.Classes.{is_char}
use Rattle.jats_chars.specs.Names.{is_name}
use Rattle.attribute_types.specs.Proper.{is_proper}
use Rattle.attribute_types.specs.Types.{class_of_type}
use Rattle.attribute_types.specs.declared.types.AttType.{AttType}
use Rattle.attribute_types.specs.declared.types.Preset.{Preset}
use Rattle.attribute_types.specs.declared.types.Preset.TheVariants as preset
use Rattle.attlist_merge.specs.Lists.{Entry, Definitions}
use Rattle.dtd_scanner.specs.declared.item.ItemKind.TheVariants.{AttlistDecl}
use Rattle.decl_set.specs.Asked.{are_chars, IsList}
use Rattle.decl_set.specs.Declarations.{AttributesOf}
use Rattle.dtd_flattener.specs.Flat.{is_special_value, escaped, quoted, type_text, preset_text, attribute_body, list_lines}
use Rattle.dtd_flattener.proofs.AttributeBodies.{is_preset_written, IsWritten, type_passes}
use Rattle.dtd_flattener.proofs.Attributes.{all_written}
use Rattle.dtd_flattener.proofs.Characters.{IsText, IsTextLine, quoted_text, spaced_text}
use Rattle.dtd_flattener.proofs.EntityChars.{escaped_text}
use Rattle.dtd_flattener.proofs.TextChars.{is_text_char, name_text_char, name_text, text_joined}

type_chars : (k : AttType) → is_proper (class_of_type k) ≡ true → IsText (type_text k)
unfolding is_char
type_chars k is = type_passes is_text_char name_text_char refl refl refl refl k is

value_chars : (text : List ℕ) → are_chars text ≡ true → IsText (quoted (escaped is_special_value text))
value_chars text is = quoted_text (escaped is_special_value text) (escaped_text is_special_value refl text is)

preset_chars : (p : Preset) → is_preset_written p ≡ true → IsText (preset_text p)
unfolding is_char
preset_chars preset.Required is = refl
preset_chars preset.Implied is = refl
preset_chars (preset.Value text) is = value_chars text is
preset_chars (preset.Fixed text) is = text_joined (codes "#FIXED ") (quoted (escaped is_special_value text)) refl (value_chars text is)

attribute_chars : (element : List ℕ) (e : Entry) → is_name element ≡ true → IsWritten e → IsText (attribute_body element e)
attribute_chars element e named is =
    let last = codes " " ++ preset_text e.1.preset in
    let types = codes " " ++ (type_text e.1.kind ++ last) in
    let names = codes " " ++ (e.0 ++ types) in
    spaced_text (element ++ names)
    (text_joined element names (name_text element named)
    (spaced_text (e.0 ++ types) (text_joined e.0 types (name_text e.0 is.named)
    (spaced_text (type_text e.1.kind ++ last) (text_joined (type_text e.1.kind) last (type_chars e.1.kind is.tokens)
    (spaced_text (preset_text e.1.preset) (preset_chars e.1.preset is.preset)))))))

lines_chars : (element : List ℕ) (list : Definitions) → is_name element ≡ true → AllByRecursion IsWritten list → AllByRecursion IsTextLine (map (λ e. (AttlistDecl, attribute_body element e)) list)
lines_chars element [] named are = tt
lines_chars element (e ∷ list) named are = ((refl, attribute_chars element e named are.0), lines_chars element list named are.1)

pub list_chars : (l : AttributesOf) → IsList l → AllByRecursion IsTextLine (list_lines l)
list_chars l is = lines_chars l.0 l.1 is.named (all_written l.1 is.definitions is.kept.definitions)
