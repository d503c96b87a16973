-- First items of texts.
use Rattle.std.proofs.Common.{◌≡◌, [], ◌∷◌, Some, None, true, false, Ok, Err, refl}
use Rattle.std.specs.Prelude.{codes}
use Rattle.jats_chars.specs.Classes.{is_char, is_space, is_name_start, is_name_char}
use Rattle.dtd_scanner.specs.Scanning.{first_item}
use Rattle.dtd_scanner.specs.References.{char_reference, begins_reference}
use Rattle.dtd_scanner.specs.ItemLists.{items_of}
use Rattle.dtd_scanner.specs.Walk.{over}
use Rattle.dtd_scanner.specs.declared.item.ItemKind.TheVariants.{Blank, Comment, Pi, Reference, SectionStart, ElementDecl, EntityDecl}
use Rattle.dtd_scanner.specs.declared.item.ScanFault.TheVariants.{Malformed, Unclosed}

-- XML 1.0, 2.5: a comment, and one that is not well-formed
comment : first_item (codes "<!-- declarations for <head> & <body> --> ") ≡ Ok (record { kind = Comment; end = 41 })
unfolding first_item is_space
comment = refl

not_a_comment : first_item (codes "<!-- B+, B, or B--->") ≡ Err Unclosed
unfolding first_item is_space
not_a_comment = refl

-- XML 1.0, 3.2
element : first_item (codes "<!ELEMENT %name.para; %content.para; >x") ≡ Ok (record { kind = ElementDecl; end = 38 })
unfolding first_item is_space
element = refl

-- XML 1.0, 4.2
entity : first_item (codes "<!ENTITY d '>' \">'\">>") ≡ Ok (record { kind = EntityDecl; end = 20 })
unfolding first_item is_space
entity = refl

-- XML 1.0, 3.4
section : first_item (codes "<![%draft;[ <!ELEMENT") ≡ Ok (record { kind = SectionStart; end = 11 })
unfolding first_item is_space
section = refl

pi : first_item (codes "<?xmlx a?>?>") ≡ Ok (record { kind = Pi; end = 10 })
unfolding first_item is_space is_name_start is_name_char
pi = refl

target : first_item (codes "<?XmL x?>") ≡ Err Unclosed
unfolding first_item is_space is_name_start is_name_char
target = refl

blank : first_item (codes " \t\n ]]>") ≡ Ok (record { kind = Blank; end = 4 })
unfolding first_item is_space
blank = refl

reference : first_item (codes "%a.b;%c;") ≡ Ok (record { kind = Reference; end = 5 })
unfolding first_item is_space is_name_start is_name_char
reference = refl

none : first_item (codes "]]>") ≡ Err Malformed
unfolding first_item is_space
none = refl

-- texts that are lists of items, and one that is not
module_items : items_of (codes "<?a?> <!ENTITY % b ''>%b;") ≡ Ok (record { kind = Pi; end = 5 } ∷ record { kind = Blank; end = 6 } ∷ record { kind = EntityDecl; end = 22 } ∷ record { kind = Reference; end = 25 } ∷ [])
unfolding over first_item is_space is_name_start is_name_char
module_items = refl

no_items : items_of (codes " %b") ≡ Err Unclosed
unfolding over first_item is_space is_name_start is_name_char
no_items = refl

-- XML 1.0, 4.1: references to characters, and to general entities
less : char_reference (codes "&#60;") ≡ Some (60, 5)
unfolding is_char
less = refl

copyright : char_reference (codes "&#xA9; 1947") ≡ Some (169, 6)
unfolding is_char
copyright = refl

no_char : char_reference (codes "&#0;") ≡ None
unfolding is_char
no_char = refl

capital : char_reference (codes "&#X41;") ≡ None
capital = refl

general : begins_reference (codes "&rights;.") ≡ true
unfolding is_char is_name_start is_name_char
general = refl

bare : begins_reference (codes "&rights ") ≡ false
unfolding is_char is_name_start is_name_char
bare = refl
