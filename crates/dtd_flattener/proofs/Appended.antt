-- What a text is behind one more part.
use Rattle.std.proofs.Common.{◌≡◌, ◌∙◌, ◌<◌, ℕ, zero, suc, ◌+◌, List, [], ◌∷◌, ◌++◌, Bool, true, false, cond, not, length, map, take, get_or, refl, ap, sym, subst, Some, None, slice_get, bytes_eq, append_assoc, append-nil, IsTrue}
use Rattle.std.specs.Prelude.{Option, Result, Ok, Err, OnOk, codes, option_map, if◌then◌else◌}
use Rattle.std.specs.List.{concat, flat_map, list_any, AllByRecursion}
use Rattle.std.specs.Map.{lookup}
use Rattle.std.specs.Option.{option_map_or}
use Rattle.std.proofs.lemmas.Bool.{and_parts, not-true}
use Rattle.std.proofs.lemmas.List.{map-append, take_more}
use Rattle.std.proofs.lemmas.List.Folds.{concat-append}
use Rattle.attribute_types.proofs.TextTests.{bytes_own, bytes_swap}
use Rattle.attlist_merge.proofs.Turns.{one_more}
use Rattle.jats_chars.specs.declared.NoMemory.{NoMemory}
use Rattle.content_models.specs.declared.content.Content.{Content}
use Rattle.content_models.specs.Proper.{is_proper}
use Rattle.dtd_scanner.specs.declared.item.ItemKind.{ItemKind}
use Rattle.dtd_scanner.specs.declared.item.ItemKind.TheVariants.{ElementDecl, AttlistDecl, EntityDecl, NotationDecl}
use Rattle.decl_set.specs.Asked.{IsKept, IsElement, are_apart}
use Rattle.decl_set.specs.Declarations.{Declarations, Element, AttributesOf, content_in, name_of}
use Rattle.dtd_flattener.specs.Flat.{Line, reference_to, escaped, notation_body, entity_body, element_body, attribute_body, list_lines, lines_of, opening, written, flat_text}
use Rattle.dtd_flattener.proofs.Apart.{or_false}

-- ---- one character

abbrev pub shown : (ℕ → Bool) → ℕ → List ℕ
shown test c = if test c then reference_to c else c ∷ []

-- a character that is known
pub shown_at : (test : ℕ → Bool) (n c : ℕ) (was new : List ℕ) (r : Result (Unit {0}) NoMemory) → c ≡ n → OnOk r (new ≡ was ++ shown test n) → OnOk r (new ≡ was ++ shown test c)
shown_at test n c was new r is put = subst (λ k. OnOk r (new ≡ was ++ shown test k)) (sym is) put

escaped_push : (test : ℕ → Bool) (cs : List ℕ) (c : ℕ) → escaped test (cs ++ c ∷ []) ≡ escaped test cs ++ shown test c
escaped_push test [] c = append-nil (shown test c)
escaped_push test (d ∷ cs) c = ap (λ t. shown test d ++ t) (escaped_push test cs c) ∙ sym (append_assoc (shown test d) (escaped test cs) (shown test c))

-- one more character of a text
pub escaped_more : (test : ℕ → Bool) (cs : List ℕ) (i c : ℕ) (was out new : List ℕ) → i < length cs → c ≡ get_or cs i c
    → out ≡ was ++ escaped test (take i cs) → new ≡ out ++ shown test c → new ≡ was ++ escaped test (take (i + 1) cs)
escaped_more test cs i c was out new within is before put =
    put ∙ ap (λ t. t ++ shown test c) before ∙ append_assoc was (escaped test (take i cs)) (shown test c)
    ∙ ap (λ t. was ++ t) (sym (escaped_push test (take i cs) c))
    ∙ ap (λ t. was ++ escaped test t) (ap (λ d. take i cs ++ d ∷ []) is ∙ sym (take_more cs i c within))

-- ---- one line

pub line_written : (kind : ItemKind) (body was first second last : List ℕ) (r : Result (Unit {0}) NoMemory) → first ≡ was ++ opening kind
    → second ≡ first ++ body → OnOk r (last ≡ second ++ codes ">\n") → OnOk r (last ≡ was ++ written (kind, body))
line_written kind body was first second last (Err x) one two three = tt
line_written kind body was first second last (Ok u) one two three =
    three ∙ ap (λ t. t ++ codes ">\n") (two ∙ ap (λ t. t ++ body) one)
    ∙ append_assoc (was ++ opening kind) body (codes ">\n") ∙ append_assoc was (opening kind) (body ++ codes ">\n")

-- ---- one more item of a list

module _ {X : Type 0} (f : X → List ℕ) where
  rows_suc : (xs : List X) (i : ℕ) (x : X) → slice_get xs i ≡ Some x → concat (map f (take (suc i) xs)) ≡ concat (map f (take i xs)) ++ f x
  rows_suc [] i x at = cc
  rows_suc (y ∷ ys) zero x at = let same : y ≡ x = cc in append-nil (f y) ∙ ap f same
  rows_suc (y ∷ ys) (suc i) x at = ap (λ t. f y ++ t) (rows_suc ys i x at) ∙ sym (append_assoc (f y) (concat (map f (take i ys))) (f x))

  pub rows_more : (xs : List X) (i : ℕ) (x : X) (was out new : List ℕ) → slice_get xs i ≡ Some x → out ≡ was ++ concat (map f (take i xs))
      → new ≡ out ++ f x → new ≡ was ++ concat (map f (take (i + 1) xs))
  rows_more xs i x was out new at before put =
      put ∙ ap (λ t. t ++ f x) before ∙ append_assoc was (concat (map f (take i xs))) (f x)
      ∙ ap (λ t. was ++ t) (sym (rows_suc xs i x at)) ∙ ap (λ k. was ++ concat (map f (take k xs))) (sym (one_more i))

  all_taken : (xs : List X) (i : ℕ) → slice_get xs i ≡ None → take i xs ≡ xs
  all_taken [] zero at = refl
  all_taken [] (suc i) at = refl
  all_taken (x ∷ xs) zero at = cc
  all_taken (x ∷ xs) (suc i) at = ap (λ (l : List X). x ∷ l) (all_taken xs i at)

  pub rows_end : (xs : List X) (i : ℕ) (was out : List ℕ) → slice_get xs i ≡ None → out ≡ was ++ concat (map f (take i xs)) → out ≡ was ++ concat (map f xs)
  rows_end xs i was out at before = before ∙ ap (λ t. was ++ concat (map f t)) (all_taken xs i at)

-- ---- an element with its content

proper_first : (b : Bool) (x c : Content) (found : Option Content) → IsTrue (is_proper x) → (found ≡ Some c → IsTrue (is_proper c)) → cond b (Some x) found ≡ Some c → IsTrue (is_proper c)
proper_first true x c found proper later is = let same : x ≡ c = cc in subst (λ d. IsTrue (is_proper d)) same proper
proper_first false x c found proper later is = later is

proper_among : (es : List Element) (name : List ℕ) (c : Content) → AllByRecursion IsElement es → lookup (bytes_eq name) es ≡ Some c → IsTrue (is_proper c)
proper_among [] name c are found = cc
proper_among (e ∷ es) name c are found = proper_first (bytes_eq name e.0) e.1 c (lookup (bytes_eq name) es) are.0.proper (proper_among es name c are.1) found

-- the content of an element is proper
pub proper_in : (set : Declarations) (name : List ℕ) (c : Content) → IsKept set → content_in set name ≡ Some c → IsTrue (is_proper c)
proper_in set name c kept found = proper_among set.elements name c kept.elements_are found

fails_at : {X : Type 0} (p : X → Bool) (xs : List X) (i : ℕ) (x : X) → list_any p xs ≡ false → slice_get xs i ≡ Some x → p x ≡ false
fails_at p [] i x none at = cc
fails_at p (y ∷ ys) zero x none at = let same : y ≡ x = cc in ap p (sym same) ∙ (or_false (p y) (list_any p ys) none).0
fails_at p (y ∷ ys) (suc i) x none at = fails_at p ys i x (or_false (p y) (list_any p ys) none).1 at

-- names that differ are found where they stand
found_at : (es : List Element) (i : ℕ) (e : Element) → are_apart es ≡ true → slice_get es i ≡ Some e → lookup (bytes_eq e.0) es ≡ Some e.1
found_at [] i e apart at = cc
found_at (x ∷ xs) zero e apart at =
    let same : x ≡ e = cc in
    let P : Element → Type 0 = λ y. lookup (bytes_eq y.0) (x ∷ xs) ≡ Some y.1 in
    subst P same (ap (λ b. cond b (Some x.1) (lookup (bytes_eq x.0) xs)) (bytes_own x.0))
found_at (x ∷ xs) (suc i) e apart at =
    let parts = and_parts (not (list_any (λ other. bytes_eq x.0 other.0) xs)) (are_apart xs) apart in
    let off = bytes_swap x.0 e.0 (fails_at (λ (other : Element). bytes_eq x.0 other.0) xs i e (not-true _ parts.0) at) in
    ap (λ b. cond b (Some x.1) (lookup (bytes_eq e.0) xs)) off ∙ found_at xs i e parts.1 at

abbrev pub element_row : Element → List ℕ
element_row e = written (ElementDecl, element_body e)

abbrev pub content_row : List ℕ → Option Content → List ℕ
content_row name found = option_map_or (λ c. written (ElementDecl, element_body (name, c))) found []

row_found : (set : Declarations) (i : ℕ) (e : Element) (name : List ℕ) → IsKept set → slice_get set.elements i ≡ Some e → name ≡ e.0 → content_row name (content_in set name) ≡ element_row e
row_found set i e name kept at is = ap (λ n. content_row n (content_in set n)) is ∙ ap (content_row e.0) (found_at set.elements i e kept.elements_apart at)

element_at : (set : Declarations) (i : ℕ) (o : Option Element) (name was out new : List ℕ) → slice_get set.elements i ≡ o → IsKept set → Some name ≡ option_map name_of o
    → out ≡ was ++ concat (map element_row (take i set.elements)) → new ≡ out ++ content_row name (content_in set name)
    → new ≡ was ++ concat (map element_row (take (i + 1) set.elements))
element_at set i None name was out new at kept is before put = cc
element_at set i (Some e) name was out new at kept is before put =
    let same : name ≡ e.0 = cc in
    rows_more element_row set.elements i e was out new at before (put ∙ ap (λ t. out ++ t) (row_found set i e name kept at same))

-- one more element
pub element_more : (set : Declarations) (i : ℕ) (name was out new : List ℕ) → IsKept set → Some name ≡ option_map name_of (slice_get set.elements i)
    → out ≡ was ++ concat (map element_row (take i set.elements)) → new ≡ out ++ content_row name (content_in set name)
    → new ≡ was ++ concat (map element_row (take (i + 1) set.elements))
element_more set i name was out new = element_at set i (slice_get set.elements i) name was out new refl

-- ---- the whole text

joined_lines : (xs ys : List Line) → concat (map written (xs ++ ys)) ≡ concat (map written xs) ++ concat (map written ys)
joined_lines xs ys = ap concat (map-append written xs ys) ∙ concat-append (map written xs) (map written ys)

rows_of : {X : Type 0} (g : X → Line) (xs : List X) → concat (map written (map g xs)) ≡ concat (map (λ x. written (g x)) xs)
rows_of g [] = refl
rows_of g (x ∷ xs) = ap (λ t. written (g x) ++ t) (rows_of g xs)

abbrev list_row : AttributesOf → List ℕ
list_row l = concat (map (λ e. written (AttlistDecl, attribute_body l.0 e)) l.1)

rows_of_lists : (ls : List AttributesOf) → concat (map written (flat_map list_lines ls)) ≡ concat (map list_row ls)
rows_of_lists [] = refl
rows_of_lists (l ∷ ls) =
    joined_lines (list_lines l) (flat_map list_lines ls)
    ∙ ap (λ t. t ++ concat (map written (flat_map list_lines ls))) (rows_of (λ e. (AttlistDecl, attribute_body l.0 e)) l.1)
    ∙ ap (λ t. list_row l ++ t) (rows_of_lists ls)

four_parts : (a b c d e f g h : List ℕ) → a ≡ b → c ≡ d → e ≡ f → g ≡ h → a ++ (c ++ (e ++ g)) ≡ b ++ (d ++ (f ++ h))
four_parts a b c d e f g h one two three four =
    ap (λ t. t ++ (c ++ (e ++ g))) one ∙ ap (λ t. b ++ (t ++ (e ++ g))) two ∙ ap (λ t. b ++ (d ++ (t ++ g))) three ∙ ap (λ t. b ++ (d ++ (f ++ t))) four

-- the four parts of a flat text
pub text_parts : (set : Declarations) → flat_text set
    ≡ concat (map (λ n. written (NotationDecl, notation_body n)) set.notations)
    ++ (concat (map (λ e. written (EntityDecl, entity_body e)) set.entities)
    ++ (concat (map (λ e. written (ElementDecl, element_body e)) set.elements)
    ++ concat (map (λ l. concat (map (λ e. written (AttlistDecl, attribute_body l.0 e)) l.1)) set.lists)))
unfolding lines_of
text_parts set =
    let notes = map (λ n. (NotationDecl, notation_body n)) set.notations in
    let names = map (λ e. (EntityDecl, entity_body e)) set.entities in
    let contents = map (λ e. (ElementDecl, element_body e)) set.elements in
    let atts = flat_map list_lines set.lists in
    joined_lines notes (names ++ (contents ++ atts))
    ∙ ap (λ t. concat (map written notes) ++ t) (joined_lines names (contents ++ atts))
    ∙ ap (λ t. concat (map written notes) ++ (concat (map written names) ++ t)) (joined_lines contents atts)
    ∙ four_parts (concat (map written notes)) _ (concat (map written names)) _ (concat (map written contents)) _ (concat (map written atts)) _
    (rows_of (λ n. (NotationDecl, notation_body n)) set.notations) (rows_of (λ e. (EntityDecl, entity_body e)) set.entities)
    (rows_of (λ e. (ElementDecl, element_body e)) set.elements) (rows_of_lists set.lists)
