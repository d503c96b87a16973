-- Collapses of values.
use Rattle.std.proofs.Common.{◌≡◌, ◌∙◌, ℕ, Bool, true, false, cond, ◌&&◌, List, [], ◌∷◌, refl, sym, ap, filter}
use Rattle.std.specs.List.{list_all, join_with_byte}
use Rattle.std.proofs.lemmas.Bool.{both_ways, and_parts, and_from}
use Rattle.std.proofs.lemmas.List.Splits.{join_with_byte-slice_split}
use Rattle.jats_chars.specs.Names.{is_name, is_nmtoken, is_names, is_nmtokens, words}
use Rattle.attribute_types.specs.Spacing.{is_filled, words_in, collapsed}
use Rattle.attribute_types.proofs.Words.{is_word, words_in-words, words-join, name_is_nmtoken, nmtoken_word, nmtoken_filled, spaced_no_name, spaced_no_nmtoken, words_in-space}

-- ---- what is in a class, by its words

-- there is one word, which passes
abbrev pub one_word : (List ℕ → Bool) → List (List ℕ) → Bool
one_word p [] = false
one_word p (w ∷ []) = p w
one_word p (w ∷ x ∷ ws) = false

-- there are words, and all pass
abbrev pub some_words : (List ℕ → Bool) → List (List ℕ) → Bool
some_words p ws = is_filled ws && list_all p ws

pub name_by_words : (v : List ℕ) → is_name (collapsed v) ≡ one_word is_name (words_in v)
name_by_words v = by (words_in v)
  where
    by : (ws : List (List ℕ)) → is_name (join_with_byte 0x20 ws) ≡ one_word is_name ws
    by [] = refl
    by (w ∷ []) = refl
    by (w ∷ x ∷ ws) = spaced_no_name w (join_with_byte 0x20 (x ∷ ws))

pub nmtoken_by_words : (v : List ℕ) → is_nmtoken (collapsed v) ≡ one_word is_nmtoken (words_in v)
nmtoken_by_words v = by (words_in v)
  where
    by : (ws : List (List ℕ)) → is_nmtoken (join_with_byte 0x20 ws) ≡ one_word is_nmtoken ws
    by [] = refl
    by (w ∷ []) = refl
    by (w ∷ x ∷ ws) = spaced_no_nmtoken w (join_with_byte 0x20 (x ∷ ws))

all_by_words : (p : List ℕ → Bool) → p [] ≡ false → (v : List ℕ) → list_all p (words (collapsed v)) ≡ some_words p (words_in v)
all_by_words p none v = by (words_in v) (words_in-words v)
  where
    by : (ws : List (List ℕ)) → list_all is_word ws ≡ true → list_all p (words (join_with_byte 0x20 ws)) ≡ some_words p ws
    by [] h = ap (λ b. b && true) none
    by (w ∷ ws) h = ap (list_all p) (words-join w ws h)

pub names_by_words : (v : List ℕ) → is_names (collapsed v) ≡ some_words is_name (words_in v)
names_by_words v = all_by_words is_name refl v

pub nmtokens_by_words : (v : List ℕ) → is_nmtokens (collapsed v) ≡ some_words is_nmtoken (words_in v)
nmtokens_by_words v = all_by_words is_nmtoken refl v

-- ---- classes within classes

one_some : (p : List ℕ → Bool) (ws : List (List ℕ)) → one_word p ws ≡ true → some_words p ws ≡ true
one_some p [] h = h
one_some p (w ∷ []) h = and_from (p w) true h refl
one_some p (w ∷ x ∷ ws) h = absurd (both_ways false refl h)

one_weaker : (p q : List ℕ → Bool) → ((t : List ℕ) → p t ≡ true → q t ≡ true) → (ws : List (List ℕ)) → one_word p ws ≡ true → one_word q ws ≡ true
one_weaker p q leads [] h = h
one_weaker p q leads (w ∷ []) h = leads w h
one_weaker p q leads (w ∷ x ∷ ws) h = h

all_weaker : (p q : List ℕ → Bool) → ((t : List ℕ) → p t ≡ true → q t ≡ true) → (ws : List (List ℕ)) → list_all p ws ≡ true → list_all q ws ≡ true
all_weaker p q leads [] h = h
all_weaker p q leads (w ∷ ws) h = and_from (q w) (list_all q ws) (leads w (and_parts (p w) (list_all p ws) h).0) (all_weaker p q leads ws (and_parts (p w) (list_all p ws) h).1)

pub name_names : (v : List ℕ) → is_name (collapsed v) ≡ true → is_names (collapsed v) ≡ true
name_names v h = names_by_words v ∙ one_some is_name (words_in v) (sym (name_by_words v) ∙ h)

pub name_nmtoken : (v : List ℕ) → is_name (collapsed v) ≡ true → is_nmtoken (collapsed v) ≡ true
name_nmtoken v h = name_is_nmtoken (collapsed v) h

pub nmtoken_nmtokens : (v : List ℕ) → is_nmtoken (collapsed v) ≡ true → is_nmtokens (collapsed v) ≡ true
nmtoken_nmtokens v h = nmtokens_by_words v ∙ one_some is_nmtoken (words_in v) (sym (nmtoken_by_words v) ∙ h)

pub names_nmtokens : (v : List ℕ) → is_names (collapsed v) ≡ true → is_nmtokens (collapsed v) ≡ true
names_nmtokens v h = all_weaker is_name is_nmtoken name_is_nmtoken (words (collapsed v)) h

pub name_nmtokens : (v : List ℕ) → is_name (collapsed v) ≡ true → is_nmtokens (collapsed v) ≡ true
name_nmtokens v h = nmtoken_nmtokens v (name_nmtoken v h)

-- ---- texts that are collapsed

all_stay : (ws : List (List ℕ)) → list_all is_nmtoken ws ≡ true → filter is_filled ws ≡ ws
all_stay [] h = refl
all_stay (w ∷ ws) h =
    let here = nmtoken_filled w (and_parts (is_nmtoken w) (list_all is_nmtoken ws) h).0 in
    ap (λ b. cond b (w ∷ filter is_filled ws) (filter is_filled ws)) here ∙ ap (λ xs. w ∷ xs) (all_stay ws (and_parts (is_nmtoken w) (list_all is_nmtoken ws) h).1)

pub words_in-nmtokens : (t : List ℕ) → is_nmtokens t ≡ true → words_in t ≡ words t
unfolding words_in
words_in-nmtokens t h = all_stay (words t) h

pub collapsed-nmtokens : (t : List ℕ) → is_nmtokens t ≡ true → collapsed t ≡ t
collapsed-nmtokens t h = ap (join_with_byte 0x20) (words_in-nmtokens t h) ∙ join_with_byte-slice_split 0x20 t

pub nmtoken_is_nmtokens : (t : List ℕ) → is_nmtoken t ≡ true → is_nmtokens t ≡ true
nmtoken_is_nmtokens t h = ap (list_all is_nmtoken) (words-join t [] (and_from (is_word t) true (nmtoken_word t h) refl)) ∙ and_from (is_nmtoken t) true h refl

pub collapsed-nmtoken : (t : List ℕ) → is_nmtoken t ≡ true → collapsed t ≡ t
collapsed-nmtoken t h = collapsed-nmtokens t (nmtoken_is_nmtokens t h)

pub collapsed-spaced : (t : List ℕ) → collapsed (0x20 ∷ t) ≡ collapsed t
collapsed-spaced t = ap (join_with_byte 0x20) (words_in-space t)
