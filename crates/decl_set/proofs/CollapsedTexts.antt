-- Values that are collapsed.
use Rattle.std.proofs.Common.{◌≡◌, ◌∙◌, ℕ, Bool, true, cond, ◌&&◌, ◌||◌, List, [], ◌∷◌, refl, ap, filter, bytes_eq, eqb}
use Rattle.std.specs.List.{list_all, slice_split, onto_first, join_with_byte}
use Rattle.std.proofs.lemmas.Bool.{and_parts, and_from}
use Rattle.std.proofs.lemmas.List.Folds.{list_all-append}
use Rattle.jats_chars.specs.Classes.{is_char}
use Rattle.jats_chars.specs.Names.{words}
use Rattle.entity_catalog.proofs.Separated.{list_all-filter, filter_all}
use Rattle.attribute_types.specs.Spacing.{is_filled, words_in, collapsed}
use Rattle.attribute_types.specs.declared.types.AttType.{AttType}
use Rattle.attribute_types.proofs.TextTests.{on_test, bytes_own}
use Rattle.attribute_types.proofs.Words.{is_word, words_in-nil, words_in-words, words_in-filled, words-join}
use Rattle.attlist_merge.specs.Lists.{is_cdata}
use Rattle.decl_set.specs.Asked.{are_chars}
use Rattle.decl_set.specs.Declaring.{settled}

-- ---- a collapse collapses to itself

joined_words : (w : List ℕ) (ws : List (List ℕ)) → list_all is_word (w ∷ ws) ≡ true → list_all is_filled (w ∷ ws) ≡ true → words_in (join_with_byte 0x20 (w ∷ ws)) ≡ w ∷ ws
unfolding words_in
joined_words w ws are filled = ap (filter is_filled) (words-join w ws are) ∙ filter_all is_filled (w ∷ ws) filled

pub collapsed_twice : (t : List ℕ) → collapsed (collapsed t) ≡ collapsed t
collapsed_twice t = by (words_in t) (words_in-words t) (words_in-filled t)
  where
    by : (ws : List (List ℕ)) → list_all is_word ws ≡ true → list_all is_filled ws ≡ true → collapsed (join_with_byte 0x20 ws) ≡ join_with_byte 0x20 ws
    by [] are filled = ap (join_with_byte 0x20) words_in-nil
    by (w ∷ ws) are filled = ap (join_with_byte 0x20) (joined_words w ws are filled)

-- a value as it is kept is that of its type
pub settled_once : (kind : AttType) (t : List ℕ) → (is_cdata kind || bytes_eq (collapsed (settled kind t)) (settled kind t)) ≡ true
settled_once kind t =
    let P : Bool → Type 0 = λ b. (b || bytes_eq (collapsed (cond b t (collapsed t))) (cond b t (collapsed t))) ≡ true in
    on_test P (is_cdata kind)
    (λ is. refl)
    (λ is. ap (λ s. bytes_eq s (collapsed t)) (collapsed_twice t) ∙ bytes_own (collapsed t))

-- ---- it is of Chars where the text is

onto_all : (p : ℕ → Bool) (c : ℕ) (parts : List (List ℕ)) → p c ≡ true → list_all (list_all p) parts ≡ true → list_all (list_all p) (onto_first c parts) ≡ true
onto_all p c [] here all = and_from (list_all p (c ∷ [])) true (and_from (p c) true here refl) refl
onto_all p c (part ∷ parts) here all =
    let both = and_parts (list_all p part) (list_all (list_all p) parts) all in
    and_from (list_all p (c ∷ part)) (list_all (list_all p) parts) (and_from (p c) (list_all p part) here both.0) both.1

split_all : (p q : ℕ → Bool) (t : List ℕ) → list_all p t ≡ true → list_all (list_all p) (slice_split q t) ≡ true
split_all p q [] all = refl
split_all p q (c ∷ cs) all =
    let P : Bool → Type 0 = λ b. list_all (list_all p) (cond b ([] ∷ slice_split q cs) (onto_first c (slice_split q cs))) ≡ true in
    let both = and_parts (p c) (list_all p cs) all in
    on_test P (q c)
    (λ is. split_all p q cs both.1)
    (λ is. onto_all p c (slice_split q cs) both.0 (split_all p q cs both.1))

joined_all : (p : ℕ → Bool) → p 0x20 ≡ true → (ws : List (List ℕ)) → list_all (list_all p) ws ≡ true → list_all p (join_with_byte 0x20 ws) ≡ true
joined_all p space [] all = refl
joined_all p space (w ∷ []) all = (and_parts (list_all p w) true all).0
joined_all p space (w ∷ x ∷ ws) all =
    let both = and_parts (list_all p w) (list_all (list_all p) (x ∷ ws)) all in
    list_all-append p w (0x20 ∷ join_with_byte 0x20 (x ∷ ws))
    ∙ and_from (list_all p w) (p 0x20 && list_all p (join_with_byte 0x20 (x ∷ ws))) both.0 (and_from (p 0x20) (list_all p (join_with_byte 0x20 (x ∷ ws))) space (joined_all p space (x ∷ ws) both.1))

space_is_char : is_char 0x20 ≡ true
unfolding is_char
space_is_char = refl

collapsed_chars : (t : List ℕ) → are_chars t ≡ true → are_chars (collapsed t) ≡ true
unfolding words_in
collapsed_chars t all =
    joined_all is_char space_is_char (filter is_filled (words t)) (list_all-filter is_filled (list_all is_char) (words t) (split_all is_char (λ c. eqb c 0x20) t all))

pub settled_chars : (kind : AttType) (t : List ℕ) → are_chars t ≡ true → are_chars (settled kind t) ≡ true
settled_chars kind t all =
    let P : Bool → Type 0 = λ b. are_chars (cond b t (collapsed t)) ≡ true in
    on_test P (is_cdata kind) (λ is. all) (λ is. collapsed_chars t all)
