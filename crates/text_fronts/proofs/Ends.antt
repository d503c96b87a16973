-- Texts without the white space at their ends.
use Rattle.std.proofs.Common.{◌≡◌, ◌∙◌, ℕ, suc, ◌+◌, ◌-◌, List, [], ◌∷◌, ◌++◌, length, take, drop, length-drop, refl, sym, ap, arith, Bool, true, false, reverse}
use Rattle.std.specs.Prelude.{if◌then◌else◌, ◌&&◌}
use Rattle.std.specs.List.{list_all, prefix_len, suffix_len}
use Rattle.std.proofs.lemmas.List.{take-append-drop, reverse-append, reverse-reverse, length-reverse, append-nil}
use Rattle.std.proofs.lemmas.List.Folds.{list_all-append}
use Rattle.std.proofs.lemmas.Bool.{and_from}
use Rattle.jats_chars.specs.Classes.{is_space}
use Rattle.text_fronts.specs.Fronts.{skipped, trimmed_end, trimmed}
use Rattle.text_fronts.specs.Grammar.{IsBlank}
use Rattle.text_fronts.proofs.Fronts.{and-left, and-right, is-not, stops, skipped_over, skipped_split, take_front}

-- ---- the front

skipped-by : (c : ℕ) (t : List ℕ) (b : Bool) → is_space c ≡ b → skipped (c ∷ t) ≡ (if b then skipped t else c ∷ t)
unfolding skipped
skipped-by c t true e = ap (λ b. drop (if b then 1 + prefix_len is_space t else 0) (c ∷ t)) e ∙ (let n : 1 + prefix_len is_space t ≡ suc (prefix_len is_space t) = omega arith in ap (λ k. drop k (c ∷ t)) n)
skipped-by c t false e = ap (λ b. drop (if b then 1 + prefix_len is_space t else 0) (c ∷ t)) e

-- what begins without white space stays as it is
pub skipped_plain : (t : List ℕ) → stops is_space t ≡ true → skipped t ≡ t
skipped_plain t s = skipped_over [] t refl s

-- white space at the front is passed over
pub skipped_more : (a r : List ℕ) → IsBlank a → skipped (a ++ r) ≡ skipped r
skipped_more [] r h = refl
skipped_more (c ∷ a) r h = skipped-by c (a ++ r) true (and-left (is_space c) (list_all is_space a) h) ∙ skipped_more a r (and-right (is_space c) (list_all is_space a) h)

pub skipped_nothing : skipped [] ≡ []
unfolding skipped
skipped_nothing = refl

-- behind the white space of a text there is none
pub skipped_stops : (t : List ℕ) → stops is_space (skipped t) ≡ true
skipped_stops [] = ap (stops is_space) skipped_nothing
skipped_stops (c ∷ t) = by (skipped_stops t) (is_space c) refl
  where
    by : stops is_space (skipped t) ≡ true → (b : Bool) → is_space c ≡ b → stops is_space (skipped (c ∷ t)) ≡ true
    by later true e = ap (stops is_space) (skipped-by c t true e) ∙ later
    by later false e = ap (stops is_space) (skipped-by c t false e) ∙ is-not (is_space c) e

-- where a text does not go on by a test, its fronts do not
pub stops_front : (p : ℕ → Bool) (x y : List ℕ) → stops p (x ++ y) ≡ true → stops p x ≡ true
stops_front p [] y s = refl
stops_front p (c ∷ x) y s = s

-- ---- the end

all_reversed : (t : List ℕ) → IsBlank t → IsBlank (reverse t)
all_reversed [] h = refl
all_reversed (c ∷ t) h =
    ap (list_all is_space) (reverse-append (c ∷ []) t)
    ∙ list_all-append is_space (reverse t) (c ∷ [])
    ∙ and_from (list_all is_space (reverse t)) (list_all is_space (c ∷ [])) (all_reversed t (and-right (is_space c) (list_all is_space t) h)) (ap (λ b. b && true) (and-left (is_space c) (list_all is_space t) h))

-- the end is the front of the text backwards
trimmed-back : (t : List ℕ) → trimmed_end t ≡ reverse (skipped (reverse t))
unfolding skipped
trimmed-back t =
    let n = suffix_len is_space t in
    let front = take n (reverse t) in
    let back = drop n (reverse t) in
    let whole : t ≡ reverse back ++ reverse front = sym (reverse-reverse t) ∙ ap reverse (sym (take-append-drop n (reverse t))) ∙ reverse-append front back in
    let long : length (reverse back) ≡ length (reverse t) - n = length-reverse back ∙ length-drop n (reverse t) in
    let size : length t - n ≡ length (reverse back) = ap (λ k. k - n) (sym (length-reverse t)) ∙ sym long in
    ap (λ k. take k t) size ∙ ap (take (length (reverse back))) whole ∙ take_front (reverse back) (reverse front)

-- a text is what is left of it, and white space
pub trimmed_split : (t : List ℕ) → (b : List ℕ) × IsBlank b × (t ≡ trimmed_end t ++ b)
trimmed_split t =
    let s = skipped_split (reverse t) in
    (reverse s.0, all_reversed s.0 s.1, sym (reverse-reverse t) ∙ ap reverse s.2 ∙ reverse-append s.0 (skipped (reverse t)) ∙ ap (λ k. k ++ reverse s.0) (sym (trimmed-back t)))

-- white space behind a text is taken off with its own
pub trimmed_more : (t b : List ℕ) → IsBlank b → trimmed_end (t ++ b) ≡ trimmed_end t
trimmed_more t b h =
    trimmed-back (t ++ b) ∙ ap (λ k. reverse (skipped k)) (reverse-append t b) ∙ ap reverse (skipped_more (reverse b) (reverse t) (all_reversed b h)) ∙ sym (trimmed-back t)

pub trimmed_twice : (t : List ℕ) → trimmed_end (trimmed_end t) ≡ trimmed_end t
trimmed_twice t =
    trimmed-back (trimmed_end t) ∙ ap (λ k. reverse (skipped (reverse k))) (trimmed-back t)
    ∙ ap (λ k. reverse (skipped k)) (reverse-reverse (skipped (reverse t)))
    ∙ ap reverse (skipped_plain (skipped (reverse t)) (skipped_stops (reverse t))) ∙ sym (trimmed-back t)

-- ---- both ends

-- what is left of a text without white space at its front
pub trimmed_front : (t : List ℕ) → stops is_space t ≡ true → trimmed (trimmed_end t) ≡ trimmed_end t
trimmed_front t s =
    let split = trimmed_split t in
    ap trimmed_end (skipped_plain (trimmed_end t) (stops_front is_space (trimmed_end t) split.0 (ap (stops is_space) (sym split.2) ∙ s))) ∙ trimmed_twice t

trimmed-by : (c : ℕ) (t b : List ℕ) → IsBlank b → trimmed (t ++ b) ≡ trimmed t → (s : Bool) → is_space c ≡ s → trimmed ((c ∷ t) ++ b) ≡ trimmed (c ∷ t)
trimmed-by c t b h later true e = ap trimmed_end (skipped-by c (t ++ b) true e) ∙ later ∙ ap trimmed_end (sym (skipped-by c t true e))
trimmed-by c t b h later false e = ap trimmed_end (skipped-by c (t ++ b) false e) ∙ trimmed_more (c ∷ t) b h ∙ ap trimmed_end (sym (skipped-by c t false e))

-- white space behind a text changes nothing
pub trimmed_blank : (t b : List ℕ) → IsBlank b → trimmed (t ++ b) ≡ trimmed t
trimmed_blank [] b h = ap (λ k. trimmed k) (sym (append-nil b)) ∙ ap trimmed_end (skipped_more b [] h)
trimmed_blank (c ∷ t) b h = trimmed-by c t b h (trimmed_blank t b h) (is_space c) refl
