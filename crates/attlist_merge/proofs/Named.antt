-- Tokens that are read as names.
use Rattle.std.proofs.Common.{◌≡◌, List, [], ◌∷◌, ◌++◌, ℕ, zero, suc, Bool, refl, ap, ◌∙◌, true, false, Option, Some, None}
use Rattle.std.specs.Prelude.{option_and_then, option_map, MatchOption, IsTrue, if◌then◌else◌, ◌==◌, ◌&&◌}
use Rattle.std.specs.List.{list_all}
use Rattle.std.proofs.lemmas.List.Folds.{list_all-append}
use Rattle.jats_chars.specs.Names.{is_name, is_nmtoken}
use Rattle.text_fronts.specs.Fronts.{Read, skipped, word, after_word}
use Rattle.attribute_types.specs.declared.types.AttType.TheVariants as kind
use Rattle.attlist_merge.specs.Reading.{closes, group, as_notation}

-- what reading a token as a name gives
abbrev pub IsReadAs : List ℕ → Option (List ℕ) → Type 0
IsReadAs token o = MatchOption o (is_name token ≡ false) (λ n. (n ≡ token) × IsTrue (is_name token))

and_false : (b : Bool) → (b && false) ≡ false
and_false true = refl
and_false false = refl

pub names_more : (done : List (List ℕ)) (w : List ℕ) → list_all is_name done ≡ true → is_name w ≡ true → list_all is_name (done ++ w ∷ []) ≡ true
names_more done w h is =
    list_all-append is_name done (w ∷ []) ∙ ap (λ b. b && (is_name w && true)) h ∙ ap (λ b. b && true) is

unnamed_more : (done : List (List ℕ)) (w : List ℕ) → list_all is_name done ≡ false → list_all is_name (done ++ w ∷ []) ≡ false
unnamed_more done w h = list_all-append is_name done (w ∷ []) ∙ ap (λ b. b && (is_name w && true)) h

unnamed_last : (done : List (List ℕ)) (w : List ℕ) → is_name w ≡ false → list_all is_name (done ++ w ∷ []) ≡ false
unnamed_last done w h =
    list_all-append is_name done (w ∷ []) ∙ ap (λ b. list_all is_name done && (b && true)) h ∙ and_false (list_all is_name done)

pub named : (done : List (List ℕ)) (rest : List ℕ) → list_all is_name done ≡ true → as_notation (done, rest) ≡ Some (kind.Notation done, rest)
named done rest h = ap (λ b. option_map (λ names. (kind.Notation names, rest)) (if b then Some done else None)) h

unnamed : (done : List (List ℕ)) (rest : List ℕ) → list_all is_name done ≡ false → as_notation (done, rest) ≡ None
unnamed done rest h = ap (λ b. option_map (λ names. (kind.Notation names, rest)) (if b then Some done else None)) h

-- a token that is no Name stays, whatever is read behind it
unnamed_closes : (go : List (List ℕ) → List ℕ → Read (List (List ℕ))) (done : List (List ℕ)) (t : List ℕ) → ((cs : List ℕ) → option_and_then as_notation (go done cs) ≡ None)
    → list_all is_name done ≡ false → option_and_then as_notation (closes go done t) ≡ None
unfolding closes
unnamed_closes go done [] goes h = refl
unnamed_closes go done (c ∷ cs) goes h =
    elim (c == 0x29) as (λ b. option_and_then as_notation (if b then Some (done, cs) else (if c == 0x7C then go done cs else None)) ≡ None) [
      | true ↦ unnamed done cs h
      | false ↦ elim (c == 0x7C) as (λ b. option_and_then as_notation (if b then go done cs else None) ≡ None) [ true ↦ goes cs | false ↦ refl ]
    ]

unnamed_group : (n : ℕ) (done : List (List ℕ)) (t : List ℕ) → list_all is_name done ≡ false → option_and_then as_notation (group n done t) ≡ None
unfolding group
unnamed_group zero done t h = refl
unnamed_group (suc n) done t h =
    let w = word (skipped t) in
    elim (is_nmtoken w) as (λ b. option_and_then as_notation (if b then closes (group n) (done ++ w ∷ []) (skipped (after_word (skipped t))) else None) ≡ None) [
      | true ↦ unnamed_closes (group n) (done ++ w ∷ []) (skipped (after_word (skipped t))) (λ cs. unnamed_group n (done ++ w ∷ []) cs (unnamed_more done w h)) (unnamed_more done w h)
      | false ↦ refl
    ]

pub no_name : (n : ℕ) (done : List (List ℕ)) (t : List ℕ) → is_name (word (skipped t)) ≡ false → option_and_then as_notation (group n done t) ≡ None
unfolding group
no_name zero done t h = refl
no_name (suc n) done t h =
    let w = word (skipped t) in
    elim (is_nmtoken w) as (λ b. option_and_then as_notation (if b then closes (group n) (done ++ w ∷ []) (skipped (after_word (skipped t))) else None) ≡ None) [
      | true ↦ unnamed_closes (group n) (done ++ w ∷ []) (skipped (after_word (skipped t))) (λ cs. unnamed_group n (done ++ w ∷ []) cs (unnamed_last done w h)) (unnamed_last done w h)
      | false ↦ refl
    ]
