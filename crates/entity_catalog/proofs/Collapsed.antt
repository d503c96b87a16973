-- A collapsed identifier stays as it is.
use Rattle.std.proofs.Common.{◌≡◌, ◌∙◌, ℕ, Bool, true, not, List, [], ◌∷◌, filter, Ok, Err, refl, ap, sym}
use Rattle.std.specs.Prelude.{Result, IfOk}
use Rattle.std.specs.List.{list_all, slice_split, join_with_byte}
use Rattle.entity_catalog.specs.Collapse.{is_public_space, is_empty, public_words, collapse_public}
use Rattle.entity_catalog.proofs.Separated.{unseparated, parts_unseparated, slice_split-join, list_all-filter, filter_all, filter_kept}

abbrev is_word : List ℕ → Bool
is_word word = not (is_empty word)

words_again : (words : List (List ℕ)) → list_all (unseparated is_public_space) words ≡ true → list_all is_word words ≡ true → public_words (join_with_byte 0x20 words) ≡ words
words_again [] plain some = refl
words_again (word ∷ words) plain some = ap (filter is_word) (slice_split-join is_public_space 0x20 refl word words plain) ∙ filter_all is_word (word ∷ words) some

pub collapse_public-twice : (text : List ℕ) → collapse_public (collapse_public text) ≡ collapse_public text
unfolding collapse_public
collapse_public-twice text =
    ap (join_with_byte 0x20)
    (words_again (public_words text) (list_all-filter is_word (unseparated is_public_space) (slice_split is_public_space text) (parts_unseparated is_public_space text)) (filter_kept is_word (slice_split is_public_space text)))

pub stays_collapsed : {E : Type 0} (r : Result (List ℕ) E) (text : List ℕ) → IfOk r (λ t. t ≡ collapse_public text) → IfOk r (λ t. collapse_public t ≡ t)
stays_collapsed (Ok t) text is = ap collapse_public is ∙ collapse_public-twice text ∙ sym is
stays_collapsed (Err e) text is = tt
