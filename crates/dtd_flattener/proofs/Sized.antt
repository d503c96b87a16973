-- How many bytes texts take.
use Rattle.std.proofs.Common.{◌≡◌, ◌∙◌, ◌<◌, ◌≤◌, ℕ, ◌+◌, ◌-◌, ◌^◌, List, [], ◌∷◌, ◌++◌, length, length-append, map, take, get_or, refl, ap, sym, arith, Some, None, slice_get, append_assoc, encode_utf8_all}
use Rattle.std.specs.Prelude.{Option, min, codes, option_map}
use Rattle.std.specs.Char.{encode_utf8}
use Rattle.std.specs.List.{concat}
use Rattle.std.proofs.lemmas.List.{take_more}
use Rattle.attlist_merge.specs.Lists.{Entry}
use Rattle.dtd_scanner.specs.declared.item.ItemKind.TheVariants.{ElementDecl, AttlistDecl, EntityDecl, NotationDecl}
use Rattle.decl_set.specs.Asked.{IsKept}
use Rattle.decl_set.specs.Declarations.{Declarations, Element, content_in, name_of}
use Rattle.dtd_flattener.specs.Flat.{attribute_tail, attribute_body, notation_body, entity_body, element_body, written, flat_text}
use Rattle.dtd_flattener.specs.Sizes.{size_of, capped}
use Rattle.dtd_flattener.proofs.Appended.{rows_more, rows_end, element_row, content_row, element_more, text_parts}

pub encoded_append : (a b : List ℕ) → encode_utf8_all (a ++ b) ≡ encode_utf8_all a ++ encode_utf8_all b
encoded_append [] b = refl
encoded_append (c ∷ a) b = ap (λ t. encode_utf8 c ++ t) (encoded_append a b) ∙ sym (append_assoc (encode_utf8 c) (encode_utf8_all a) (encode_utf8_all b))

pub size_append : (a b : List ℕ) → size_of (a ++ b) ≡ size_of a + size_of b
unfolding size_of
size_append a b = ap length (encoded_append a b) ∙ length-append (encode_utf8_all a) (encode_utf8_all b)

-- what is counted of two parts is what is counted of both
pub capped_sum : (k a b : ℕ) → min (min a k + min b k) k ≡ min (a + b) k
capped_sum k a b = omega arith

pub capped_more : (a b x y z : ℕ) → x ≡ capped a → y ≡ capped b → z ≡ min (x + y) (2 ^ 64 - 1) → z ≡ capped (a + b)
capped_more a b x y z one two is = is ∙ ap (λ n. min (n + y) (2 ^ 64 - 1)) one ∙ ap (λ n. min (capped a + n) (2 ^ 64 - 1)) two ∙ capped_sum (2 ^ 64 - 1) a b

-- ---- characters

one_size : (c : ℕ) → size_of (c ∷ []) ≡ length (encode_utf8 c)
unfolding size_of
one_size c = length-append (encode_utf8 c) [] ∙ (let n : length (encode_utf8 c) + 0 ≡ length (encode_utf8 c) = omega arith in n)

pub size_nothing : size_of [] ≡ 0
unfolding size_of
size_nothing = refl

small : (n : ℕ) → n ≤ 4 → n ≡ capped n
small n few = omega arith

pub size_next : (cs : List ℕ) (i c total len new : ℕ) → i < length cs → c ≡ get_or cs i c → len ≡ length (encode_utf8 c) → len ≤ 4
    → total ≡ capped (size_of (take i cs)) → new ≡ min (total + len) (2 ^ 64 - 1) → new ≡ capped (size_of (take (i + 1) cs))
size_next cs i c total len new within is long few before next =
    let one : len ≡ size_of (c ∷ []) = long ∙ sym (one_size c) in
    capped_more (size_of (take i cs)) (size_of (c ∷ [])) total len new before (small len few ∙ ap capped one) next
    ∙ ap capped (sym (size_append (take i cs) (c ∷ [])) ∙ ap size_of (ap (λ d. take i cs ++ d ∷ []) is ∙ sym (take_more cs i c within)))

pub size_zero : 0 ≡ capped (size_of [])
size_zero = ap capped (sym size_nothing)

-- ---- rows

module _ {X : Type 0} (f : X → List ℕ) where
  pub sizes_more : (xs : List X) (i : ℕ) (x : X) (total more new : ℕ) → slice_get xs i ≡ Some x → total ≡ capped (size_of (concat (map f (take i xs))))
      → more ≡ capped (size_of (f x)) → new ≡ min (total + more) (2 ^ 64 - 1) → new ≡ capped (size_of (concat (map f (take (i + 1) xs))))
  sizes_more xs i x total more new at before one next =
      capped_more (size_of (concat (map f (take i xs)))) (size_of (f x)) total more new before one next
      ∙ ap capped (sym (size_append (concat (map f (take i xs))) (f x)) ∙ ap size_of (rows_more f xs i x [] (concat (map f (take i xs))) (concat (map f (take i xs)) ++ f x) at refl refl))

  pub sizes_end : (xs : List X) (i total : ℕ) → slice_get xs i ≡ None → total ≡ capped (size_of (concat (map f (take i xs)))) → total ≡ capped (size_of (concat (map f xs)))
  sizes_end xs i total at before = before ∙ ap (λ t. capped (size_of t)) (rows_end f xs i [] (concat (map f (take i xs))) at refl)

-- one more element
pub element_sizes : (set : Declarations) (i : ℕ) (name : List ℕ) (total more new : ℕ) → IsKept set → Some name ≡ option_map name_of (slice_get set.elements i)
    → total ≡ capped (size_of (concat (map element_row (take i set.elements)))) → more ≡ capped (size_of (content_row name (content_in set name)))
    → new ≡ min (total + more) (2 ^ 64 - 1) → new ≡ capped (size_of (concat (map element_row (take (i + 1) set.elements))))
element_sizes set i name total more new kept is before one next =
    let rows = concat (map element_row (take i set.elements)) in
    let row = content_row name (content_in set name) in
    capped_more (size_of rows) (size_of row) total more new before one next
    ∙ ap capped (sym (size_append rows row) ∙ ap size_of (element_more set i name [] rows (rows ++ row) kept is refl refl))

-- no more elements
pub elements_end : (set : Declarations) (i total : ℕ) → None ≡ option_map name_of (slice_get set.elements i) → total ≡ capped (size_of (concat (map element_row (take i set.elements))))
    → total ≡ capped (size_of (concat (map element_row set.elements)))
elements_end set i total none before = by (slice_get set.elements i) refl none
  where
    by : (o : Option Element) → slice_get set.elements i ≡ o → None ≡ option_map name_of o → total ≡ capped (size_of (concat (map element_row set.elements)))
    by None at none = sizes_end element_row set.elements i total at before
    by (Some e) at none = cc

-- the line of an attribute has 13 characters round the name of its element and what is behind it
attribute_whole : (element : List ℕ) (e : Entry) → size_of (written (AttlistDecl, attribute_body element e)) ≡ size_of element + size_of (attribute_tail e) + 13
unfolding size_of encode_utf8
attribute_whole element e =
    let tail = attribute_tail e in
    let body = codes " " ++ (element ++ (codes " " ++ tail)) in
    let a : size_of (written (AttlistDecl, attribute_body element e)) ≡ size_of (codes "<!ATTLIST") + size_of (body ++ codes ">\n") = size_append (codes "<!ATTLIST") (body ++ codes ">\n") in
    let b : size_of (body ++ codes ">\n") ≡ size_of body + size_of (codes ">\n") = size_append body (codes ">\n") in
    let c : size_of body ≡ size_of (codes " ") + size_of (element ++ (codes " " ++ tail)) = size_append (codes " ") (element ++ (codes " " ++ tail)) in
    let d : size_of (element ++ (codes " " ++ tail)) ≡ size_of element + size_of (codes " " ++ tail) = size_append element (codes " " ++ tail) in
    let f : size_of (codes " " ++ tail) ≡ size_of (codes " ") + size_of tail = size_append (codes " ") tail in
    let nine : size_of (codes "<!ATTLIST") ≡ 9 = refl in
    let one : size_of (codes " ") ≡ 1 = refl in
    let two : size_of (codes ">\n") ≡ 2 = refl in
    sum (size_of (written (AttlistDecl, attribute_body element e))) (size_of (codes "<!ATTLIST")) (size_of (body ++ codes ">\n")) (size_of body) (size_of (codes ">\n")) (size_of (codes " ")) (size_of (element ++ (codes " " ++ tail)))
    (size_of element) (size_of (codes " " ++ tail)) (size_of tail) a b c d f nine one two
  where
    sum : (all nine rest body two one behind element after tail : ℕ) → all ≡ nine + rest → rest ≡ body + two → body ≡ one + behind → behind ≡ element + after → after ≡ one + tail
        → nine ≡ 9 → one ≡ 1 → two ≡ 2 → all ≡ element + tail + 13
    sum all nine rest body two one behind element after tail a b c d f x y z = omega arith

pub attribute_sum : (element : List ℕ) (e : Entry) (front rest sum last : ℕ) → front ≡ capped (size_of element) → rest ≡ capped (size_of (attribute_tail e))
    → sum ≡ min (front + rest) (2 ^ 64 - 1) → last ≡ min (sum + 13) (2 ^ 64 - 1) → last ≡ capped (size_of (written (AttlistDecl, attribute_body element e)))
attribute_sum element e front rest sum last one two three four =
    capped_more (size_of element + size_of (attribute_tail e)) 13 sum 13 last (capped_more (size_of element) (size_of (attribute_tail e)) front rest sum one two three) refl four
    ∙ ap capped (sym (attribute_whole element e))

-- ---- the whole text

pub size_whole : (set : Declarations) (notations entities elements lists rest more last : ℕ)
    → notations ≡ capped (size_of (concat (map (λ n. written (NotationDecl, notation_body n)) set.notations)))
    → entities ≡ capped (size_of (concat (map (λ e. written (EntityDecl, entity_body e)) set.entities)))
    → elements ≡ capped (size_of (concat (map (λ e. written (ElementDecl, element_body e)) set.elements)))
    → lists ≡ capped (size_of (concat (map (λ l. concat (map (λ e. written (AttlistDecl, attribute_body l.0 e)) l.1)) set.lists)))
    → rest ≡ min (elements + lists) (2 ^ 64 - 1) → more ≡ min (entities + rest) (2 ^ 64 - 1) → last ≡ min (notations + more) (2 ^ 64 - 1)
    → last ≡ min (length (encode_utf8_all (flat_text set))) (2 ^ 64 - 1)
unfolding size_of
size_whole set notations entities elements lists rest more last one two three four x y z =
    let a = concat (map (λ n. written (NotationDecl, notation_body n)) set.notations) in
    let b = concat (map (λ e. written (EntityDecl, entity_body e)) set.entities) in
    let c = concat (map (λ e. written (ElementDecl, element_body e)) set.elements) in
    let d = concat (map (λ l. concat (map (λ e. written (AttlistDecl, attribute_body l.0 e)) l.1)) set.lists) in
    let cd = capped_more (size_of c) (size_of d) elements lists rest three four x ∙ ap capped (sym (size_append c d)) in
    let bcd = capped_more (size_of b) (size_of (c ++ d)) entities rest more two cd y ∙ ap capped (sym (size_append b (c ++ d))) in
    capped_more (size_of a) (size_of (b ++ (c ++ d))) notations more last one bcd z ∙ ap capped (sym (size_append a (b ++ (c ++ d))))
    ∙ ap (λ t. capped (size_of t)) (sym (text_parts set))
