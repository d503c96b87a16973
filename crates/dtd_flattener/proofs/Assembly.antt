-- The flat text of a set is read as the same set.
use Rattle.std.proofs.Common.{◌≡◌, ◌∙◌, ◌≤◌, ℕ, ◌+◌, List, [], ◌∷◌, ◌++◌, length, map, cond, true, false, Some, None, Ok, refl, ap, arith, encode_utf8_all}
use Rattle.std.specs.Prelude.{nat_lt}
use Rattle.std.specs.List.{flat_map, list_all, AllByRecursion}
use Rattle.std.proofs.lemmas.Bool.{and_parts, le-ltb}
use Rattle.attribute_types.proofs.TextTests.{bytes_own}
use Rattle.jats_chars.specs.Decoded.{text_of}
use Rattle.jats_io.specs.Loads.{held}
use Rattle.dtd_scanner.specs.Walk.{◌>>=◌}
use Rattle.dtd_scanner.specs.declared.item.ItemKind.TheVariants.{ElementDecl, EntityDecl, NotationDecl}
use Rattle.decl_set.specs.Asked.{IsKept, IsElement, IsList, is_entity_kept, is_notation_kept}
use Rattle.decl_set.specs.Declarations.{Declarations, Element, AttributesOf, Entity, Notation, none_declared}
use Rattle.decl_set.specs.Declaring.{end_fault}
use Rattle.module_reader.specs.Reading.{module_read}
use Rattle.module_reader.specs.Sets.{finished, finished_by, entry_read, set_from}
use Rattle.module_reader.specs.Sources.{Source, started, module_of, new_module, held_as, measured, decoded_by, with_module}
use Rattle.module_reader.specs.declared.state.State.{State}
use Rattle.dtd_flattener.specs.Flat.{notation_body, entity_body, element_body, list_lines, lines_of, flat_text}
use Rattle.dtd_flattener.specs.Laws.{ReadsBack, ReadsBackAsFile}
use Rattle.dtd_flattener.proofs.AttributeChars.{list_chars}
use Rattle.dtd_flattener.proofs.Attributes.{are_named, lists_lead}
use Rattle.dtd_flattener.proofs.Characters.{IsTextLine, notation_chars, element_chars, lines_text, lines_begin}
use Rattle.dtd_flattener.proofs.Elements.{elements_lead}
use Rattle.dtd_flattener.proofs.Encoded.{text_encoded}
use Rattle.dtd_flattener.proofs.Entities.{entities_lead}
use Rattle.dtd_flattener.proofs.EntityChars.{entity_chars}
use Rattle.dtd_flattener.proofs.Flatness.{all_joined}
use Rattle.dtd_flattener.proofs.Leading.{Leads, with_set, leads_on}
use Rattle.dtd_flattener.proofs.Lines.{module_lines}
use Rattle.dtd_flattener.proofs.NotationNames.{notations_named}
use Rattle.dtd_flattener.proofs.Notations.{notations_lead}

-- ---- the text

set_leads : (source : Source) (base : State) (set : Declarations) → IsKept set → list_all are_named set.lists ≡ true → Leads source (with_set base none_declared) (lines_of set) (with_set base set)
unfolding lines_of
set_leads source base set kept names_are =
    let noted : Declarations = record none_declared { notations = set.notations } in
    let named : Declarations = record noted { entities = set.entities } in
    let filled : Declarations = record named { elements = set.elements } in
    let notes = map (λ n. (NotationDecl, notation_body n)) set.notations in
    let names = map (λ e. (EntityDecl, entity_body e)) set.entities in
    let contents = map (λ e. (ElementDecl, element_body e)) set.elements in
    let atts = flat_map list_lines set.lists in
    leads_on source (with_set base none_declared) (with_set base noted) (with_set base set) notes (names ++ (contents ++ atts))
    (notations_lead source base none_declared set.notations kept.notations_apart kept.notations_are)
    (leads_on source (with_set base noted) (with_set base named) (with_set base set) names (contents ++ atts)
    (entities_lead source base noted set.entities kept.entities_apart kept.entities_are)
    (leads_on source (with_set base named) (with_set base filled) (with_set base set) contents atts
    (elements_lead source base named set.elements kept.elements_apart kept.elements_are kept.few kept.follows)
    (lists_lead source base filled set.lists kept.lists_apart kept.lists_are names_are)))

read_as : (source : Source) (name : List ℕ) (base : State) (set : Declarations) → IsKept set → end_fault set ≡ None
    → (module_read source name (with_set base none_declared) (flat_text set) >>= finished name) ≡ Ok set
read_as source name base set kept ends =
    ap (λ r. r >>= finished name) (module_lines source name (with_set base none_declared) (with_set base set) (lines_of set) (set_leads source base set kept (notations_named set kept ends)))
    ∙ ap (finished_by name set) ends

pub reads_back : ReadsBack
reads_back set source name kept ends = read_as source name started set kept ends

-- ---- the file

notation_lines : (ns : List Notation) → list_all is_notation_kept ns ≡ true → AllByRecursion IsTextLine (map (λ n. (NotationDecl, notation_body n)) ns)
notation_lines [] kept = tt
notation_lines (n ∷ ns) kept =
    let parts = and_parts (is_notation_kept n) (list_all is_notation_kept ns) kept in
    ((refl, notation_chars n parts.0), notation_lines ns parts.1)

entity_lines : (es : List Entity) → list_all is_entity_kept es ≡ true → AllByRecursion IsTextLine (map (λ e. (EntityDecl, entity_body e)) es)
entity_lines [] kept = tt
entity_lines (e ∷ es) kept =
    let parts = and_parts (is_entity_kept e) (list_all is_entity_kept es) kept in
    ((refl, entity_chars e parts.0), entity_lines es parts.1)

element_lines : (es : List Element) → AllByRecursion IsElement es → AllByRecursion IsTextLine (map (λ e. (ElementDecl, element_body e)) es)
element_lines [] are = tt
element_lines (e ∷ es) are = ((refl, element_chars e are.0), element_lines es are.1)

attribute_lines : (ls : List AttributesOf) → AllByRecursion IsList ls → AllByRecursion IsTextLine (flat_map list_lines ls)
attribute_lines [] are = tt
attribute_lines (l ∷ ls) are = all_joined IsTextLine (list_lines l) (flat_map list_lines ls) (list_chars l are.0) (attribute_lines ls are.1)

set_lines : (set : Declarations) → IsKept set → AllByRecursion IsTextLine (lines_of set)
unfolding lines_of
set_lines set kept =
    let names = map (λ e. (EntityDecl, entity_body e)) set.entities in
    let contents = map (λ e. (ElementDecl, element_body e)) set.elements in
    let atts = flat_map list_lines set.lists in
    all_joined IsTextLine (map (λ n. (NotationDecl, notation_body n)) set.notations) (names ++ (contents ++ atts)) (notation_lines set.notations kept.notations_are)
    (all_joined IsTextLine names (contents ++ atts) (entity_lines set.entities kept.entities_are)
    (all_joined IsTextLine contents atts (element_lines set.elements kept.elements_are) (attribute_lines set.lists kept.lists_are)))

set_encoded : (set : Declarations) → IsKept set → text_of (encode_utf8_all (flat_text set)) ≡ Ok (flat_text set)
set_encoded set kept =
    let lines = set_lines set kept in
    text_encoded (flat_text set) (lines_begin (lines_of set) lines) (lines_text (lines_of set) lines)

-- the state with the text as its first module
abbrev loaded : List ℕ → List ℕ → List ℕ → State
loaded name bytes text = record started { modules = (name, text) ∷ []; bytes = 0 + length bytes }

measured_well : (name bytes text : List ℕ) → length bytes ≤ 4194304 → text_of bytes ≡ Ok text → measured started name bytes ≡ Ok (loaded name bytes text, text)
measured_well name bytes text small is =
    let few : nat_lt 4194304 (length bytes) ≡ false = le-ltb 4194304 (length bytes) small in
    let some : nat_lt 33554432 (0 + length bytes) ≡ false = le-ltb 33554432 (0 + length bytes) (omega arith) in
    rw (few, some) (ap (decoded_by name (with_module started name (length bytes))) is)

set_file : (name bytes text : List ℕ) (source : Source) → source.files ≡ (name, bytes) ∷ [] → length bytes ≤ 4194304 → text_of bytes ≡ Ok text
    → module_of source started name ≡ Ok (loaded name bytes text, text)
unfolding new_module
set_file name bytes text source files small is =
    ap (λ f. held_as started name (held f name)) files
    ∙ ap (λ b. held_as started name (cond b (Some bytes) (held [] name))) (bytes_own name)
    ∙ measured_well name bytes text small is

pub reads_back_as_file : ReadsBackAsFile
unfolding set_from
reads_back_as_file set name kept ends small =
    let text = flat_text set in
    let bytes = encode_utf8_all text in
    let source : Source = record { files = (name, bytes) ∷ []; catalog = record { systems = []; publics = [] } } in
    ap (λ r. r >>= entry_read source name) (set_file name bytes text source refl small (set_encoded set kept))
    ∙ read_as source name (loaded name bytes text) set kept ends
