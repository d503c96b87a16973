-- How many bytes texts have, part by part.
use Rattle.std.proofs.Common.{◌≡◌, ◌≢◌, ◌∙◌, sym, ℕ, ◌+◌, List, [], ◌∷◌, ◌++◌, Bool, true, false, map, length, refl, ap, arith, length-append, encode_utf8_all, codes}
use Rattle.std.specs.List.{flat_map}
use Rattle.std.specs.Prelude.{◌==◌, ◌&&◌}
use Rattle.std.proofs.lemmas.Bool.{eqb-true, eq-eqb, false≢true, cond-true, cond-false}
use Rattle.jats_chars.specs.Classes.{is_space}
use Rattle.decl_set.specs.ValueEscaped.{decimal_reference}
use Rattle.std.proofs.lemmas.Str.{encodes-append}
use Rattle.document_trees.specs.Trees.{Attribute, is_white}
use Rattle.article_tree.specs.Writing.{value_char, written_attribute, written_comment, written_pi, written_body, tag_front, end_tag, line_end, run_char, marked_run}
use Rattle.article_tree.specs.Sizes.{Counts, bytes, attribute_size, atts_size}
use Rattle.article_tree.proofs.Appended.{nine, ten, thirteen, thirty_two}

pub bytes_append : (x y : List ℕ) → bytes (x ++ y) ≡ bytes x + bytes y
bytes_append x y = ap length (encodes-append x y) ∙ length-append (encode_utf8_all x) (encode_utf8_all y)

-- ---- marks

pub space_size : bytes (codes " ") ≡ 1
unfolding lib.Utf8.encode
space_size = refl

opens_value_size : bytes (codes "=\"") ≡ 2
unfolding lib.Utf8.encode
opens_value_size = refl

closes_value_size : bytes (codes "\"") ≡ 1
unfolding lib.Utf8.encode
closes_value_size = refl

pub opens_size : bytes (codes "<") ≡ 1
unfolding lib.Utf8.encode
opens_size = refl

opens_end_size : bytes (codes "</") ≡ 2
unfolding lib.Utf8.encode
opens_end_size = refl

pub closes_size : bytes (codes ">") ≡ 1
unfolding lib.Utf8.encode
closes_size = refl

pub closes_both_size : bytes (codes "/>") ≡ 2
unfolding lib.Utf8.encode
closes_both_size = refl

opens_comment_size : bytes (codes "<!--") ≡ 4
unfolding lib.Utf8.encode
opens_comment_size = refl

closes_comment_size : bytes (codes "-->") ≡ 3
unfolding lib.Utf8.encode
closes_comment_size = refl

opens_pi_size : bytes (codes "<?") ≡ 2
unfolding lib.Utf8.encode
opens_pi_size = refl

closes_pi_size : bytes (codes "?>") ≡ 2
unfolding lib.Utf8.encode
closes_pi_size = refl

pub section_size : bytes (codes "<![CDATA[]]>") ≡ 12
unfolding lib.Utf8.encode
section_size = refl

-- ---- parts

attribute_text : (a : Attribute) → bytes (written_attribute a) ≡ attribute_size a
attribute_text a =
    let value = flat_map value_char a.1 in
    let p = bytes_append (codes " ") (a.0 ++ (codes "=\"" ++ (value ++ codes "\""))) in
    let q = bytes_append a.0 (codes "=\"" ++ (value ++ codes "\"")) in
    let r = bytes_append (codes "=\"") (value ++ codes "\"") in
    let s = bytes_append value (codes "\"") in
    omega (arith, p, q, r, s, space_size, opens_value_size, closes_value_size)

atts_text : (atts : List Attribute) → bytes (flat_map written_attribute atts) ≡ atts_size atts
atts_text [] = refl
atts_text (a ∷ atts) =
    let p = bytes_append (written_attribute a) (flat_map written_attribute atts) in
    let q = attribute_text a in
    let r = atts_text atts in
    omega (arith, p, q, r)

pub front_text : (name : List ℕ) (atts : List Attribute) → bytes (tag_front name atts) ≡ 1 + (bytes name + atts_size atts)
front_text name atts =
    let p = bytes_append (codes "<") (name ++ flat_map written_attribute atts) in
    let q = bytes_append name (flat_map written_attribute atts) in
    let r = atts_text atts in
    omega (arith, p, q, r, opens_size)

pub end_text : (name : List ℕ) → bytes (end_tag name) ≡ 3 + bytes name
end_text name =
    let p = bytes_append (codes "</") (name ++ codes ">") in
    let q = bytes_append name (codes ">") in
    omega (arith, p, q, opens_end_size, closes_size)

pub comment_text : (text : List ℕ) → bytes (written_comment text) ≡ 7 + bytes text
comment_text text =
    let p = bytes_append (codes "<!--") (text ++ codes "-->") in
    let q = bytes_append text (codes "-->") in
    omega (arith, p, q, opens_comment_size, closes_comment_size)

pub pi_text : (target body : List ℕ) → bytes (written_pi target body) ≡ 4 + (bytes target + bytes (written_body body))
pi_text target body =
    let p = bytes_append (codes "<?") (target ++ (written_body body ++ codes "?>")) in
    let q = bytes_append target (written_body body ++ codes "?>") in
    let r = bytes_append (written_body body) (codes "?>") in
    omega (arith, p, q, r, opens_pi_size, closes_pi_size)

-- ---- characters

tab_size : bytes (codes "&#9;") ≡ 4
unfolding lib.Utf8.encode
tab_size = refl

feed_size : bytes (codes "&#10;") ≡ 5
unfolding lib.Utf8.encode
feed_size = refl

return_size : bytes (codes "&#13;") ≡ 5
unfolding lib.Utf8.encode
return_size = refl

blank_size : bytes (codes "&#32;") ≡ 5
unfolding lib.Utf8.encode
blank_size = refl

pub tab_text : (c : ℕ) → c ≡ 9 → 4 ≡ bytes (decimal_reference c)
tab_text c is = sym tab_size ∙ ap bytes (nine c is)

white_left : (c : ℕ) → is_space c ≡ true → c ≢ 9 → c ≢ 10 → (b : Bool) → (c == 13) ≡ b → 5 ≡ bytes (decimal_reference c)
white_left c is one two true e = sym return_size ∙ ap bytes (thirteen c (eqb-true c 13 e))
white_left c is one two false e = sym blank_size ∙ ap bytes (thirty_two c is one two (λ q. false≢true (sym e ∙ eq-eqb c 13 q)))

white_by : (c : ℕ) → is_space c ≡ true → c ≢ 9 → (b : Bool) → (c == 10) ≡ b → 5 ≡ bytes (decimal_reference c)
white_by c is one true e = sym feed_size ∙ ap bytes (ten c (eqb-true c 10 e))
white_by c is one false e = white_left c is one (λ q. false≢true (sym e ∙ eq-eqb c 10 q)) (c == 13) refl

-- a white space character that is no TAB has two digits
pub white_text : (c : ℕ) → is_space c ≡ true → c ≢ 9 → 5 ≡ bytes (decimal_reference c)
white_text c is one = white_by c is one (c == 10) refl

line_end_text : (c : ℕ) (b : Bool) → (c == 13) ≡ b → bytes (line_end c ∷ []) ≡ bytes (c ∷ [])
unfolding lib.Utf8.encode
line_end_text c true e = let is : c ≡ 13 = eqb-true c 13 e in rw is refl
line_end_text c false e = ap (λ n. bytes (n ∷ [])) (cond-false (c == 13) 10 c e)

-- CR and LF have one byte each
pub plain_text : (text : List ℕ) → bytes (map line_end text) ≡ bytes text
plain_text [] = refl
plain_text (c ∷ cs) =
    let p = bytes_append (line_end c ∷ []) (map line_end cs) in
    let q = bytes_append (c ∷ []) cs in
    let r = plain_text cs in
    let s = line_end_text c (c == 13) refl in
    omega (arith, p, q, r, s)

-- a run that is not plain
pub marked_text : (c : ℕ) (cs text : List ℕ) (before size total result : ℕ) → text ≡ c ∷ cs → is_space c ≡ true → is_white cs ≡ true → size ≡ bytes (decimal_reference c) → Counts before size total
    → Counts total (bytes (flat_map run_char cs)) result → Counts before (bytes (marked_run text)) result
marked_text c cs text before size total result is first rest sized one two =
    let white : is_white (c ∷ cs) ≡ true = both_true (is_space c) (is_white cs) first rest in
    let shown : marked_run text ≡ decimal_reference c ++ flat_map run_char cs = ap marked_run is ∙ cond-true (is_white (c ∷ cs)) _ _ white in
    let p = bytes_append (decimal_reference c) (flat_map run_char cs) in
    let q : bytes (marked_run text) ≡ bytes (decimal_reference c) + bytes (flat_map run_char cs) = ap bytes shown ∙ p in
    omega (arith, one, two, sized, q)
  where
    both_true : (a b : Bool) → a ≡ true → b ≡ true → (a && b) ≡ true
    both_true a b e f = rw (e, f) refl
