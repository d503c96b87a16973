-- Characters of certificates and of articles: Chars other than CR.
use Rattle.std.proofs.Common.{◌≡◌, ◌<◌, ◌^◌, ◌+◌, ◌==◌, ℕ, suc, Bool, true, false, not, ◌&&◌, List, [], ◌∷◌, ◌++◌, refl, arith, map, codes, IsTrue}
use Rattle.std.specs.Prelude.{if◌then◌else◌}
use Rattle.std.specs.Fmt.{decimal}
use Rattle.std.specs.List.{flat_map, list_all}
use Rattle.std.proofs.lemmas.Bool.{and_from, and_parts, agree_below_at}
use Rattle.jats_chars.specs.Classes.{is_char, is_space}
use Rattle.jats_chars.specs.Names.{is_name}
use Rattle.dtd_scanner.proofs.Targets.{space_small, start_stands}
use Rattle.document_trees.specs.Trees.{Attribute, Items, Node, EachBelow, IsWellMade, are_attributes, are_chars, are_items, has_attribute, is_white}
use Rattle.document_trees.specs.Trees as tree
use Rattle.decl_set.specs.ValueEscaped.{decimal_reference}
use Rattle.bound_checker.proofs.Lined.{IsPassed, decimal_passes, name_passes}
use Rattle.article_tree.specs.Writing.{AreWritable, IsWritable, enclosed, has_no_return, line_end, marked_run, run_char, value_char, write, written, written_attribute, written_body, written_comment, written_pi}
use Rattle.dtd_flattener.proofs.TextChars.{chars_text, is_text_char, name_text_char, text_char, text_joined}

abbrev IsText : List ℕ → Type 0
IsText text = list_all is_text_char text ≡ true

digit_text : (n : ℕ) → n < 10 → is_text_char (48 + n) ≡ true
unfolding is_char
digit_text n small = agree_below_at (λ k. is_text_char (48 + k)) (λ k. true) 10 n refl small

-- certificates are of such characters
pub text_passed : IsPassed is_text_char
unfolding is_char
text_passed = record {
  digit = digit_text;
  starts = λ c is. name_text_char c (start_stands c is);
  named = name_text_char;
  space = refl;
  certificate = refl;
  version = refl;
  element = refl;
  state = refl;
  pair = refl;
  inf = refl;
  end = refl;
}

name_is : (name : List ℕ) → is_name name ≡ true → IsText name
name_is = name_passes is_text_char text_passed

-- ---- characters that are written

value_text : (c : ℕ) → is_char c ≡ true → IsText (value_char c)
unfolding is_char
value_text c is = by (c == 38) (c == 60) (c == 34) (c == 9) (c == 10) (c == 13) refl
  where
    by : (a l q t n r : Bool) → (c == 13) ≡ r
        → IsText (if a then codes "&amp;" else if l then codes "&lt;" else if q then codes "&quot;" else if t then codes "&#9;" else if n then codes "&#10;" else if r then codes "&#13;" else c ∷ [])
    by true l q t n r e = refl
    by false true q t n r e = refl
    by false false true t n r e = refl
    by false false false true n r e = refl
    by false false false false true r e = refl
    by false false false false false true e = refl
    by false false false false false false e = and_from (is_text_char c) true (text_char c is e) refl

run_text : (c : ℕ) → is_char c ≡ true → IsText (run_char c)
unfolding is_char
run_text c is = by (c == 38) (c == 60) (c == 62) (c == 13) refl
  where
    by : (a l g r : Bool) → (c == 13) ≡ r → IsText (if a then codes "&amp;" else if l then codes "&lt;" else if g then codes "&gt;" else if r then codes "&#13;" else c ∷ [])
    by true l g r e = refl
    by false true g r e = refl
    by false false true r e = refl
    by false false false true e = refl
    by false false false false e = and_from (is_text_char c) true (text_char c is e) refl

all_text : (f : ℕ → List ℕ) → ((c : ℕ) → is_char c ≡ true → IsText (f c)) → (text : List ℕ) → are_chars text ≡ true → IsText (flat_map f text)
all_text f each [] are = refl
all_text f each (c ∷ cs) are =
    let parts = and_parts (is_char c) (list_all is_char cs) are in
    text_joined (f c) (flat_map f cs) (each c parts.0) (all_text f each cs parts.1)

ends_text : (text : List ℕ) → are_chars text ≡ true → IsText (map line_end text)
unfolding is_char
ends_text [] are = refl
ends_text (c ∷ cs) are =
    let parts = and_parts (is_char c) (list_all is_char cs) are in
    and_from (is_text_char (line_end c)) (list_all is_text_char (map line_end cs)) (by (c == 13) refl parts.0) (ends_text cs parts.1)
  where
    by : (r : Bool) → (c == 13) ≡ r → is_char c ≡ true → is_text_char (if r then 10 else c) ≡ true
    by true e is = refl
    by false e is = text_char c is e

-- ---- runs

reference_text : (c : ℕ) → c < 2 ^ 64 → IsText (decimal_reference c)
unfolding is_char
reference_text c small = text_joined (codes "&#") (decimal c ++ codes ";") refl (text_joined (decimal c) (codes ";") (decimal_passes is_text_char text_passed c small) refl)

marked_text : (text : List ℕ) → are_chars text ≡ true → IsText (marked_run text)
unfolding is_char
marked_text [] are = refl
marked_text (c ∷ cs) are = by (is_white (c ∷ cs)) refl
  where
    by : (b : Bool) → is_white (c ∷ cs) ≡ b → IsText (if b then decimal_reference c ++ flat_map run_char cs else flat_map run_char (c ∷ cs))
    by true e =
        let parts = and_parts (is_char c) (list_all is_char cs) are in
        let small = space_small c (and_parts (is_space c) (list_all is_space cs) e).0 in
        text_joined (decimal_reference c) (flat_map run_char cs) (reference_text c (omega (arith, small))) (all_text run_char run_text cs parts.1)
    by false e = all_text run_char run_text (c ∷ cs) are

-- ---- tags

attribute_text : (a : Attribute) → is_name a.0 ≡ true → are_chars a.1 ≡ true → IsText (written_attribute a)
unfolding is_char
attribute_text a named are =
    let value = flat_map value_char a.1 in
    text_joined (codes " ") (a.0 ++ (codes "=\"" ++ (value ++ codes "\""))) refl
    (text_joined a.0 (codes "=\"" ++ (value ++ codes "\"")) (name_is a.0 named)
    (text_joined (codes "=\"") (value ++ codes "\"") refl (text_joined value (codes "\"") (all_text value_char value_text a.1 are) refl)))

atts_text : (atts : List Attribute) → are_attributes atts ≡ true → IsText (flat_map written_attribute atts)
atts_text [] are = refl
atts_text (a ∷ atts) are =
    let parts = and_parts (is_name a.0) (are_chars a.1 && (not (has_attribute atts a.0) && are_attributes atts)) are in
    let more = and_parts (are_chars a.1) (not (has_attribute atts a.0) && are_attributes atts) parts.1 in
    text_joined (written_attribute a) (flat_map written_attribute atts) (attribute_text a parts.0 more.0) (atts_text atts (and_parts (not (has_attribute atts a.0)) (are_attributes atts) more.1).1)

closed_text : (name text : List ℕ) → is_name name ≡ true → IsText text → IsText (codes ">" ++ (text ++ (codes "</" ++ (name ++ codes ">"))))
unfolding is_char
closed_text name text named are =
    text_joined (codes ">") (text ++ (codes "</" ++ (name ++ codes ">"))) refl
    (text_joined text (codes "</" ++ (name ++ codes ">")) are (text_joined (codes "</") (name ++ codes ">") refl (text_joined name (codes ">") (name_is name named) refl)))

enclosed_text : (name : List ℕ) (items : Items) (text : List ℕ) → is_name name ≡ true → IsText text → IsText (enclosed name items text)
unfolding is_char
enclosed_text name tree.nothing text named are = refl
enclosed_text name (tree.element n atts inside later) text named are = closed_text name text named are
enclosed_text name (tree.chars t plain later) text named are = closed_text name text named are
enclosed_text name (tree.comment t later) text named are = closed_text name text named are
enclosed_text name (tree.pi target body later) text named are = closed_text name text named are

tag_text : (name : List ℕ) (atts : List Attribute) (rest : List ℕ) → is_name name ≡ true → are_attributes atts ≡ true → IsText rest → IsText (codes "<" ++ (name ++ (flat_map written_attribute atts ++ rest)))
unfolding is_char
tag_text name atts rest named are also =
    text_joined (codes "<") (name ++ (flat_map written_attribute atts ++ rest)) refl
    (text_joined name (flat_map written_attribute atts ++ rest) (name_is name named) (text_joined (flat_map written_attribute atts) rest (atts_text atts are) also))

-- ---- the other items

comment_text : (text : List ℕ) → are_chars text ≡ true → IsTrue (has_no_return text) → IsText (written_comment text)
unfolding is_char
comment_text text are none = text_joined (codes "<!--") (text ++ codes "-->") refl (text_joined text (codes "-->") (chars_text text are none) refl)

body_text : (body : List ℕ) → are_chars body ≡ true → IsTrue (has_no_return body) → IsText (written_body body)
unfolding is_char
body_text [] are none = refl
body_text (c ∷ cs) are none = text_joined (codes " ") (c ∷ cs) refl (chars_text (c ∷ cs) are none)

pi_text : (target body : List ℕ) → is_name target ≡ true → are_chars body ≡ true → IsTrue (has_no_return body) → IsText (written_pi target body)
unfolding is_char
pi_text target body named are none =
    text_joined (codes "<?") (target ++ (written_body body ++ codes "?>")) refl
    (text_joined target (written_body body ++ codes "?>") (name_is target named) (text_joined (written_body body) (codes "?>") (body_text body are none) refl))

-- ---- articles

items_text : (depth : ℕ) (items : Items) → EachBelow IsWellMade items → are_items items ≡ true → AreWritable depth items → IsText (written items)
items_text depth tree.nothing made are writable = refl
items_text depth (tree.element name atts inside later) made are writable =
    text_joined (codes "<" ++ (name ++ (flat_map written_attribute atts ++ enclosed name inside (written inside)))) (written later)
    (tag_text name atts (enclosed name inside (written inside)) made.0.named made.0.attributes
    (enclosed_text name inside (written inside) made.0.named (items_text (suc depth) inside made.1 made.0.beside writable.1)))
    (items_text depth later made.2 are writable.2)
items_text depth (tree.chars text true later) made are writable =
    let parts = and_parts (are_chars text) (is_white text && are_items later) are in
    text_joined (map line_end text) (written later) (ends_text text parts.0) (items_text depth later made (and_parts (is_white text) (are_items later) parts.1).1 writable.3)
items_text depth (tree.chars text false later) made are writable =
    let parts = and_parts (are_chars text) (are_items later) are in
    text_joined (marked_run text) (written later) (marked_text text parts.0) (items_text depth later made parts.1 writable.1)
items_text depth (tree.comment text later) made are writable =
    let parts = and_parts (are_chars text) (are_items later) are in
    text_joined (written_comment text) (written later) (comment_text text parts.0 writable.0) (items_text depth later made parts.1 writable.3)
items_text depth (tree.pi target body later) made are writable =
    let parts = and_parts (is_name target) (are_chars body && are_items later) are in
    let more = and_parts (are_chars body) (are_items later) parts.1 in
    text_joined (written_pi target body) (written later) (pi_text target body parts.0 more.0 writable.0) (items_text depth later made more.1 writable.4)

-- what is written of a writable article
pub article_is_text : (node : Node) → IsWritable node → list_all is_text_char (write node) ≡ true
article_is_text node writable =
    let made = writable.0 in
    text_joined (codes "<" ++ (node.name ++ (flat_map written_attribute node.atts ++ enclosed node.name node.items (written node.items)))) []
    (tag_text node.name node.atts (enclosed node.name node.items (written node.items)) made.0.named made.0.attributes
    (enclosed_text node.name node.items (written node.items) made.0.named (items_text 1 node.items made.1 made.0.beside writable.1)))
    refl
