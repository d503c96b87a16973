-- What bytes are behind one more line.
use Rattle.std.proofs.Common.{◌≡◌, ◌∙◌, ◌<◌, ℕ, ◌+◌, length, get_or, append-nil, List, [], ◌∷◌, ◌++◌, map, take, refl, ap, sym, Some, slice_get, append_assoc, encode_utf8_all}
use Rattle.std.specs.Prelude.{option_map}
use Rattle.std.specs.Char.{encode_utf8}
use Rattle.std.proofs.lemmas.List.{take_more}
use Rattle.std.specs.List.{concat}
use Rattle.dtd_scanner.specs.declared.item.ItemKind.TheVariants.{ElementDecl, AttlistDecl, EntityDecl, NotationDecl}
use Rattle.decl_set.specs.Asked.{IsKept}
use Rattle.decl_set.specs.Declarations.{Declarations, content_in, name_of}
use Rattle.dtd_flattener.specs.Flat.{notation_body, entity_body, element_body, attribute_body, written, flat_text}
use Rattle.dtd_flattener.proofs.Appended.{rows_more, element_row, content_row, element_more, text_parts}
use Rattle.dtd_flattener.proofs.Sized.{encoded_append}

behind : (rows row rest was out new : List ℕ) → out ≡ was ++ encode_utf8_all rows → new ≡ out ++ encode_utf8_all row → rows ++ row ≡ rest → new ≡ was ++ encode_utf8_all rest
behind rows row rest was out new before put is =
    put ∙ ap (λ t. t ++ encode_utf8_all row) before ∙ append_assoc was (encode_utf8_all rows) (encode_utf8_all row)
    ∙ ap (λ t. was ++ t) (sym (encoded_append rows row) ∙ ap encode_utf8_all is)

pub bytes_more : {X : Type 0} (f : X → List ℕ) (xs : List X) (i : ℕ) (x : X) (was out new : List ℕ) → slice_get xs i ≡ Some x → out ≡ was ++ encode_utf8_all (concat (map f (take i xs)))
    → new ≡ out ++ encode_utf8_all (f x) → new ≡ was ++ encode_utf8_all (concat (map f (take (i + 1) xs)))
bytes_more f xs i x was out new at before put =
    let rows = concat (map f (take i xs)) in
    behind rows (f x) (concat (map f (take (i + 1) xs))) was out new before put (rows_more f xs i x [] rows (rows ++ f x) at refl refl)

-- one more element
pub element_bytes : (set : Declarations) (i : ℕ) (name was out new : List ℕ) → IsKept set → Some name ≡ option_map name_of (slice_get set.elements i)
    → out ≡ was ++ encode_utf8_all (concat (map element_row (take i set.elements))) → new ≡ out ++ encode_utf8_all (content_row name (content_in set name))
    → new ≡ was ++ encode_utf8_all (concat (map element_row (take (i + 1) set.elements)))
element_bytes set i name was out new kept is before put =
    let rows = concat (map element_row (take i set.elements)) in
    let row = content_row name (content_in set name) in
    behind rows row (concat (map element_row (take (i + 1) set.elements))) was out new before put (element_more set i name [] rows (rows ++ row) kept is refl refl)

-- one more character
pub chars_more : (cs : List ℕ) (i c : ℕ) (was out new : List ℕ) → i < length cs → c ≡ get_or cs i c → out ≡ was ++ encode_utf8_all (take i cs) → new ≡ out ++ encode_utf8 c
    → new ≡ was ++ encode_utf8_all (take (i + 1) cs)
chars_more cs i c was out new within is before put =
    behind (take i cs) (c ∷ []) (take (i + 1) cs) was out new before (put ∙ ap (λ t. out ++ t) (sym (append-nil (encode_utf8 c))))
    (ap (λ d. take i cs ++ d ∷ []) is ∙ sym (take_more cs i c within))

joined_bytes : (a b c d empty first second third last : List ℕ) → empty ≡ [] → first ≡ empty ++ encode_utf8_all a → second ≡ first ++ encode_utf8_all b → third ≡ second ++ encode_utf8_all c
    → last ≡ third ++ encode_utf8_all d → last ≡ encode_utf8_all (a ++ (b ++ (c ++ d)))
joined_bytes a b c d empty first second third last start one two three four =
    let x = encode_utf8_all in
    four ∙ ap (λ t. t ++ x d) (three ∙ ap (λ t. t ++ x c) (two ∙ ap (λ t. t ++ x b) (one ∙ ap (λ t. t ++ x a) start)))
    ∙ append_assoc (x a ++ x b) (x c) (x d) ∙ append_assoc (x a) (x b) (x c ++ x d)
    ∙ ap (λ t. x a ++ (x b ++ t)) (sym (encoded_append c d)) ∙ ap (λ t. x a ++ t) (sym (encoded_append b (c ++ d))) ∙ sym (encoded_append a (b ++ (c ++ d)))

-- the parts of a flat text, written one behind another
pub bytes_whole : (set : Declarations) (empty first second third last : List ℕ) → empty ≡ []
    → first ≡ empty ++ encode_utf8_all (concat (map (λ n. written (NotationDecl, notation_body n)) set.notations))
    → second ≡ first ++ encode_utf8_all (concat (map (λ e. written (EntityDecl, entity_body e)) set.entities))
    → third ≡ second ++ encode_utf8_all (concat (map (λ e. written (ElementDecl, element_body e)) set.elements))
    → last ≡ third ++ encode_utf8_all (concat (map (λ l. concat (map (λ e. written (AttlistDecl, attribute_body l.0 e)) l.1)) set.lists)) → last ≡ encode_utf8_all (flat_text set)
bytes_whole set empty first second third last start one two three four =
    joined_bytes (concat (map (λ n. written (NotationDecl, notation_body n)) set.notations)) (concat (map (λ e. written (EntityDecl, entity_body e)) set.entities))
    (concat (map element_row set.elements)) (concat (map (λ l. concat (map (λ e. written (AttlistDecl, attribute_body l.0 e)) l.1)) set.lists)) empty first second third last start one two three four
    ∙ ap encode_utf8_all (sym (text_parts set))
