-- How many bytes texts have, part by part.
use Rattle.std.proofs.Common.{◌≡◌, ◌∙◌, ℕ, ◌+◌, List, [], ◌∷◌, ◌++◌, false, length, refl, ap, arith, length-append, encode_utf8_all, codes}
use Rattle.std.specs.List.{flat_map}
use Rattle.std.proofs.lemmas.Str.{encodes-append}
use Rattle.document_trees.specs.Trees.{Attribute, Items, nothing, element, chars, comment, pi}
use Rattle.article_tree.specs.Writing.{value_char, written_attribute, enclosed, written, written_run, written_comment, written_pi}
use Rattle.separating_article.specs.Sizes.{bytes, attribute_size, atts_size, names_size, is_empty, items_size, SizeOfText}

pub bytes-append : (x y : List ℕ) → bytes (x ++ y) ≡ bytes x + bytes y
bytes-append x y = ap length (encodes-append x y) ∙ length-append (encode_utf8_all x) (encode_utf8_all y)

-- the marks of tags

space_size : bytes (codes " ") ≡ 1
unfolding lib.Utf8.encode
space_size = refl

opens_value_size : bytes (codes "=\"") ≡ 2
unfolding lib.Utf8.encode
opens_value_size = refl

closes_value_size : bytes (codes "\"") ≡ 1
unfolding lib.Utf8.encode
closes_value_size = refl

opens_size : bytes (codes "<") ≡ 1
unfolding lib.Utf8.encode
opens_size = refl

opens_end_size : bytes (codes "</") ≡ 2
unfolding lib.Utf8.encode
opens_end_size = refl

closes_size : bytes (codes ">") ≡ 1
unfolding lib.Utf8.encode
closes_size = refl

closes_both_size : bytes (codes "/>") ≡ 2
unfolding lib.Utf8.encode
closes_both_size = refl

-- ---- parts

attribute_text : (a : Attribute) → bytes (written_attribute a) ≡ attribute_size a
attribute_text a =
    let value = flat_map value_char a.1 in
    let p = bytes-append (codes " ") (a.0 ++ (codes "=\"" ++ (value ++ codes "\""))) in
    let q = bytes-append a.0 (codes "=\"" ++ (value ++ codes "\"")) in
    let r = bytes-append (codes "=\"") (value ++ codes "\"") in
    let s = bytes-append value (codes "\"") in
    omega (arith, p, q, r, s, space_size, opens_value_size, closes_value_size)

atts_text : (atts : List Attribute) → bytes (flat_map written_attribute atts) ≡ atts_size atts
atts_text [] = refl
atts_text (a ∷ atts) =
    let p = bytes-append (written_attribute a) (flat_map written_attribute atts) in
    let q = attribute_text a in
    let r = atts_text atts in
    omega (arith, p, q, r)

between : (name text : List ℕ) → bytes (codes ">" ++ (text ++ (codes "</" ++ (name ++ codes ">")))) + bytes name + 1 ≡ names_size name false + bytes text
between name text =
    let p = bytes-append (codes ">") (text ++ (codes "</" ++ (name ++ codes ">"))) in
    let q = bytes-append text (codes "</" ++ (name ++ codes ">")) in
    let r = bytes-append (codes "</") (name ++ codes ">") in
    let s = bytes-append name (codes ">") in
    omega (arith, p, q, r, s, opens_end_size, closes_size)

-- what ends an element, with its text between two tags
enclosed_text : (name : List ℕ) (items : Items) (text : List ℕ) → (items ≡ nothing → text ≡ []) → bytes (enclosed name items text) + bytes name + 1 ≡ names_size name (is_empty items) + bytes text
enclosed_text name nothing text e =
    let none : bytes text ≡ 0 = ap bytes (e refl) in
    omega (arith, closes_both_size, none)
enclosed_text name (element n atts inside later) text e = between name text
enclosed_text name (chars t plain later) text e = between name text
enclosed_text name (comment t later) text e = between name text
enclosed_text name (pi t body later) text e = between name text

element_text : (name : List ℕ) (atts : List Attribute) (items : Items) (text rest : List ℕ) → (items ≡ nothing → text ≡ [])
    → bytes (codes "<" ++ (name ++ (flat_map written_attribute atts ++ enclosed name items text)) ++ rest) ≡ names_size name (is_empty items) + atts_size atts + bytes text + bytes rest
element_text name atts items text rest e =
    let body = flat_map written_attribute atts ++ enclosed name items text in
    let o = bytes-append (codes "<" ++ (name ++ body)) rest in
    let p = bytes-append (codes "<") (name ++ body) in
    let q = bytes-append name body in
    let r = bytes-append (flat_map written_attribute atts) (enclosed name items text) in
    let s = enclosed_text name items text e in
    let t = atts_text atts in
    omega (arith, o, p, q, r, s, t, opens_size)

items_text : (items : Items) → bytes (written items) ≡ items_size items
items_text nothing = refl
items_text (element name atts inside later) =
    let e = element_text name atts inside (written inside) (written later) (λ q. ap written q) in
    let p = items_text inside in
    let q = items_text later in
    omega (arith, e, p, q)
items_text (chars text plain later) = let p = bytes-append (written_run text plain) (written later) in let q = items_text later in omega (arith, p, q)
items_text (comment text later) = let p = bytes-append (written_comment text) (written later) in let q = items_text later in omega (arith, p, q)
items_text (pi target body later) = let p = bytes-append (written_pi target body) (written later) in let q = items_text later in omega (arith, p, q)

pub size_of_text : SizeOfText
size_of_text node = let p = items_text (element node.name node.atts node.items nothing) in omega (arith, p)
