-- Examples of articles, each fault once, and of what is written.
use Rattle.std.proofs.Common.{◌≡◌, List, [], ◌∷◌, ℕ, false, true, Ok, Err, refl}
use Rattle.std.specs.Prelude.{codes, None, Result}
use Rattle.std.specs.Fmt.{digits}
use Rattle.std.specs.List.{repeat}
use Rattle.jats_chars.specs.Classes.{is_char, is_space, is_name_start, is_name_char}
use Rattle.dtd_scanner.specs.Walk.{over}
use Rattle.text_fronts.specs.Fronts.{skipped, word, after_word, read_literal}
use Rattle.attlist_merge.specs.Reading.{read_quoted}
use Rattle.attlist_merge.specs.Grammar.{is_value}
use Rattle.declaration_bodies.specs.Identifiers.{read_ids}
use Rattle.entity_catalog.specs.declared.ids.Ids.TheVariants as ids
use Rattle.jats_fault.specs.declared.fault.Fault.{Fault}
use Rattle.document_trees.specs.Trees.{Items, Node, nothing, element, chars, comment, pi}
use Rattle.decl_set.specs.Declarations.{Entity}
use Rattle.decl_set.specs.Values.{opening, predefined, value_of, value_piece}
use Rattle.decl_set.specs.declared.entity.EntityDef.TheVariants.{Internal, External}
use Rattle.article_tree.specs.Taking.{first_token, take_attributes}
use Rattle.article_tree.specs.Stops.{Standing}
use Rattle.article_tree.specs.Writing.{write}
use Rattle.article_tree.specs.Reading.{article_of, content}

standing : Standing
standing = record { article = codes "a"; inner = None }

fault : ℕ → ℕ → List (List ℕ) → Result Node Fault
fault number offset details = Err (record { number = number; place = record { «module» = codes "a"; offset = offset }; details = details })

entities : List Entity
entities =
    (codes "w", Internal (codes " ")) ∷ (codes "c", Internal (codes "&#32;")) ∷ (codes "h", Internal (codes "<s>")) ∷ (codes "n", Internal [])
    ∷ (codes "x", External (ids.System (codes "x.xml"))) ∷ (codes "t", Internal (codes "<s i='&t;'/>")) ∷ (codes "u", Internal (codes "a&u;"))
    ∷ (codes "l", Internal (codes "<s></r>")) ∷ (codes "b", Internal (codes "&")) ∷ (codes "m", Internal (codes "<s>&lt;b</s>c")) ∷ []

read : List ℕ → Result Node Fault
read text = article_of entities (codes "a") text

-- ---- nodes

plain_node : read (codes "<?xml-x y?><!DOCTYPE r SYSTEM \"m.dtd\"> <r><s i='1' k = \"&lt;\"/></r><!--x-->") ≡ Ok (record { name = codes "r"; atts = []; items = element (codes "s") ((codes "i", codes "1") ∷ (codes "k", codes "<") ∷ []) nothing nothing })
unfolding read fault entities article_of over first_token take_attributes skipped word after_word read_quoted is_value read_ids read_literal value_of value_piece predefined opening is_space is_char is_name_start is_name_char
plain_node = refl

from_space : read (codes "<r>&w;<s/></r>") ≡ Ok (record { name = codes "r"; atts = []; items = chars (codes " ") true (element (codes "s") [] nothing nothing) })
unfolding read fault entities article_of over first_token take_attributes skipped word after_word read_quoted is_value read_ids read_literal value_of value_piece predefined opening is_space is_char is_name_start is_name_char
from_space = refl

from_coded : read (codes "<r>&c;<s/></r>") ≡ Ok (record { name = codes "r"; atts = []; items = chars (codes " ") false (element (codes "s") [] nothing nothing) })
unfolding read fault entities article_of over first_token take_attributes skipped word after_word read_quoted is_value read_ids read_literal value_of value_piece predefined opening is_space is_char is_name_start is_name_char
from_coded = refl

from_section : read (codes "<r><![CDATA[ ]]></r>") ≡ Ok (record { name = codes "r"; atts = []; items = chars (codes " ") false nothing })
unfolding read fault entities article_of over first_token take_attributes skipped word after_word read_quoted is_value read_ids read_literal value_of value_piece predefined opening is_space is_char is_name_start is_name_char
from_section = refl

with_comment : read (codes "<r><s><!--x--></s></r>") ≡ Ok (record { name = codes "r"; atts = []; items = element (codes "s") [] (comment (codes "x") nothing) nothing })
unfolding read fault entities article_of over first_token take_attributes skipped word after_word read_quoted is_value read_ids read_literal value_of value_piece predefined opening is_space is_char is_name_start is_name_char
with_comment = refl

from_empty : read (codes "<r>&n;</r>") ≡ Ok (record { name = codes "r"; atts = []; items = chars [] true nothing })
unfolding read fault entities article_of over first_token take_attributes skipped word after_word read_quoted is_value read_ids read_literal value_of value_piece predefined opening is_space is_char is_name_start is_name_char
from_empty = refl

one_run : read (codes "<r>a&m;&#33;&w;</r>") ≡ Ok (record { name = codes "r"; atts = []; items = chars (codes "a") false (element (codes "s") [] (chars (codes "<b") false nothing) (chars (codes "c! ") false nothing)) })
unfolding read fault entities article_of over first_token take_attributes skipped word after_word read_quoted is_value read_ids read_literal value_of value_piece predefined opening is_space is_char is_name_start is_name_char
one_run = refl

typed : read (codes "<!DOCTYPE r SYSTEM \"m.dtd\"><r/>") ≡ Ok (record { name = codes "r"; atts = []; items = nothing })
unfolding read fault entities article_of over first_token take_attributes skipped word after_word read_quoted is_value read_ids read_literal value_of value_piece predefined opening is_space is_char is_name_start is_name_char
typed = refl

-- ---- faults

external : read (codes "<r>&x;</r>") ≡ fault 64 3 (codes "x" ∷ [])
unfolding read fault entities article_of over first_token take_attributes skipped word after_word read_quoted is_value read_ids read_literal value_of value_piece predefined opening is_space is_char is_name_start is_name_char
external = refl

unended : read (codes "<r>&h;</s></r>") ≡ fault 69 3 (codes "h" ∷ [])
unfolding read fault entities article_of over first_token take_attributes skipped word after_word read_quoted is_value read_ids read_literal value_of value_piece predefined opening is_space is_char is_name_start is_name_char
unended = refl

no_tag : read (codes "<r><</r>") ≡ fault 60 3 []
unfolding read fault entities article_of over first_token take_attributes skipped word after_word read_quoted is_value read_ids read_literal value_of value_piece predefined opening is_space is_char is_name_start is_name_char
no_tag = refl

subset : read (codes "<!DOCTYPE r []><r/>") ≡ fault 67 0 []
unfolding read fault entities article_of over first_token take_attributes skipped word after_word read_quoted is_value read_ids read_literal value_of value_piece predefined opening is_space is_char is_name_start is_name_char
subset = refl

mismatch : read (codes "<r><s></r>") ≡ fault 61 6 (codes "s" ∷ codes "r" ∷ [])
unfolding read fault entities article_of over first_token take_attributes skipped word after_word read_quoted is_value read_ids read_literal value_of value_piece predefined opening is_space is_char is_name_start is_name_char
mismatch = refl

twice : read (codes "<r><s i=\"1\" i=\"2\"/></r>") ≡ fault 62 3 (codes "s" ∷ codes "i" ∷ [])
unfolding read fault entities article_of over first_token take_attributes skipped word after_word read_quoted is_value read_ids read_literal value_of value_piece predefined opening is_space is_char is_name_start is_name_char
twice = refl

unknown : read (codes "<r>&q;</r>") ≡ fault 63 3 (codes "q" ∷ [])
unfolding read fault entities article_of over first_token take_attributes skipped word after_word read_quoted is_value read_ids read_literal value_of value_piece predefined opening is_space is_char is_name_start is_name_char
unknown = refl

rest : read (codes "<r/><r/>") ≡ fault 66 4 []
unfolding read fault entities article_of over first_token take_attributes skipped word after_word read_quoted is_value read_ids read_literal value_of value_piece predefined opening is_space is_char is_name_start is_name_char
rest = refl

in_itself : read (codes "<r>&u;</r>") ≡ fault 28 3 (codes "u" ∷ [])
unfolding read fault entities article_of over first_token take_attributes skipped word after_word read_quoted is_value read_ids read_literal value_of value_piece predefined opening is_space is_char is_name_start is_name_char
in_itself = refl

less : read (codes "<r i=\"&h;\"/>") ≡ fault 27 0 (codes "i" ∷ [])
unfolding read fault entities article_of over first_token take_attributes skipped word after_word read_quoted is_value read_ids read_literal value_of value_piece predefined opening is_space is_char is_name_start is_name_char
less = refl

section_end : read (codes "<r>a]]></r>") ≡ fault 60 4 []
unfolding read fault entities article_of over first_token take_attributes skipped word after_word read_quoted is_value read_ids read_literal value_of value_piece predefined opening is_space is_char is_name_start is_name_char
section_end = refl

before : read (codes "  x<r/>") ≡ fault 60 2 []
unfolding read fault entities article_of over first_token take_attributes skipped word after_word read_quoted is_value read_ids read_literal value_of value_piece predefined opening is_space is_char is_name_start is_name_char
before = refl

typed_twice : read (codes "<!DOCTYPE r><!DOCTYPE r><r/>") ≡ fault 60 12 []
unfolding read fault entities article_of over first_token take_attributes skipped word after_word read_quoted is_value read_ids read_literal value_of value_piece predefined opening is_space is_char is_name_start is_name_char
typed_twice = refl

no_element : read (codes "<!--x--> ") ≡ fault 60 9 []
unfolding read fault entities article_of over first_token take_attributes skipped word after_word read_quoted is_value read_ids read_literal value_of value_piece predefined opening is_space is_char is_name_start is_name_char
no_element = refl

open_at_end : read (codes "<r> ") ≡ fault 60 4 []
unfolding read fault entities article_of over first_token take_attributes skipped word after_word read_quoted is_value read_ids read_literal value_of value_piece predefined opening is_space is_char is_name_start is_name_char
open_at_end = refl

comment_behind : read (codes "<r/><!--x") ≡ fault 66 4 []
unfolding read fault entities article_of over first_token take_attributes skipped word after_word read_quoted is_value read_ids read_literal value_of value_piece predefined opening is_space is_char is_name_start is_name_char
comment_behind = refl

typed_behind : read (codes "<r/> <!DOCTYPE r>") ≡ fault 66 5 []
unfolding read fault entities article_of over first_token take_attributes skipped word after_word read_quoted is_value read_ids read_literal value_of value_piece predefined opening is_space is_char is_name_start is_name_char
typed_behind = refl

no_system : read (codes "<!DOCTYPE r SYSTEM []><r/>") ≡ fault 60 0 []
unfolding read fault entities article_of over first_token take_attributes skipped word after_word read_quoted is_value read_ids read_literal value_of value_piece predefined opening is_space is_char is_name_start is_name_char
no_system = refl

value_malformed : read (codes "<r> <s i=\"&b;\"/></r>") ≡ fault 60 4 []
unfolding read fault entities article_of over first_token take_attributes skipped word after_word read_quoted is_value read_ids read_literal value_of value_piece predefined opening is_space is_char is_name_start is_name_char
value_malformed = refl

mismatch_in_entity : read (codes "<r> &l;</r>") ≡ fault 61 4 (codes "s" ∷ codes "r" ∷ [])
unfolding read fault entities article_of over first_token take_attributes skipped word after_word read_quoted is_value read_ids read_literal value_of value_piece predefined opening is_space is_char is_name_start is_name_char
mismatch_in_entity = refl

value_in_entity : read (codes "<r> &t;</r>") ≡ fault 28 4 (codes "t" ∷ [])
unfolding read fault entities article_of over first_token take_attributes skipped word after_word read_quoted is_value read_ids read_literal value_of value_piece predefined opening is_space is_char is_name_start is_name_char
value_in_entity = refl

-- ---- limits, where much is open or included already

too_many_open : content 1 entities (repeat 32 (codes "y" ∷ [])) 0 standing 0 (codes "&w;") ≡ Err (record { number = 24; place = record { «module» = codes "a"; offset = 0 }; details = codes "w" ∷ [] })
unfolding read fault entities article_of over first_token take_attributes skipped word after_word read_quoted is_value read_ids read_literal value_of value_piece predefined opening is_space is_char is_name_start is_name_char standing
too_many_open = refl

too_much : content 1 entities [] 0 standing 67108864 (codes "&w;") ≡ Err (record { number = 25; place = record { «module» = codes "a"; offset = 0 }; details = codes "w" ∷ [] })
unfolding read fault entities article_of over first_token take_attributes skipped word after_word read_quoted is_value read_ids read_literal value_of value_piece predefined opening is_space is_char is_name_start is_name_char standing
too_much = refl

too_deep : content 1 entities [] 2048 standing 0 (codes " <s/>") ≡ Err (record { number = 65; place = record { «module» = codes "a"; offset = 1 }; details = codes "s" ∷ [] })
unfolding read fault entities article_of over first_token take_attributes skipped word after_word read_quoted is_value read_ids read_literal value_of value_piece predefined opening is_space is_char is_name_start is_name_char standing
too_deep = refl

-- ---- what is written

node : List (List ℕ × List ℕ) → Items → Node
node atts items = record { name = codes "e"; atts = atts; items = items }

plain_space : write (node [] (chars (codes " ") true nothing)) ≡ codes "<e> </e>"
unfolding node
plain_space = refl

coded_space : write (node [] (chars (codes " ") false nothing)) ≡ codes "<e>&#32;</e>"
unfolding node is_space digits
coded_space = refl

empty_run : write (node [] (chars [] false nothing)) ≡ codes "<e><![CDATA[]]></e>"
unfolding node
empty_run = refl

marked_run : write (node [] (chars (13 ∷ codes " a<&>]]>") false (element (codes "s") [] nothing nothing))) ≡ codes "<e>&#13; a&lt;&amp;&gt;]]&gt;<s/></e>"
unfolding node is_space digits
marked_run = refl

with_values : write (node ((codes "i", 9 ∷ 10 ∷ 13 ∷ codes "\"'<>&") ∷ (codes "k", []) ∷ []) nothing) ≡ codes "<e i=\"&#9;&#10;&#13;&quot;'&lt;>&amp;\" k=\"\"/>"
unfolding node
with_values = refl

with_others : write (node [] (comment (codes "x") (pi (codes "p") [] (pi (codes "q") (codes "b") nothing)))) ≡ codes "<e><!--x--><?p?><?q b?></e>"
unfolding node
with_others = refl
