-- Texts that begin with a given text, and runs of characters that pass a test.
use Rattle.std.proofs.Common.{◌≡◌, ◌∙◌, ℕ, suc, ◌+◌, List, [], ◌∷◌, ◌++◌, length, take, drop, Bool, true, false, not, eqb, refl, ap, arith}
use Rattle.std.specs.Prelude.{nat_eq}
use Rattle.std.specs.List.{list_all, prefix_len, starts_with}
use Rattle.std.proofs.lemmas.Bool.{cond-true, cond-false, cond_both, and_parts, and_from, eqb-true, eqb-false, ne_eqb, eq-eqb, not-true, not_from_false, false≢true}
use Rattle.dtd_scanner.specs.Items.{first_is, Holds}

-- what begins with a text is that text and the rest
pub starts_found : (part text : List ℕ) → starts_with nat_eq text part ≡ true → text ≡ part ++ drop (length part) text
starts_found [] text begins = refl
starts_found (c ∷ part) [] begins = absurd (false≢true begins)
starts_found (c ∷ part) (d ∷ text) begins =
    let parts = and_parts (eqb c d) (starts_with nat_eq text part) begins in
    let same : c ≡ d = eqb-true c d parts.0 in
    let rest : text ≡ part ++ drop (length part) text = starts_found part text parts.1 in
    cc

pub starts_here : (part rest : List ℕ) → starts_with nat_eq (part ++ rest) part ≡ true
starts_here [] rest = refl
starts_here (c ∷ part) rest = and_from (eqb c c) (starts_with nat_eq (part ++ rest) part) (eq-eqb c c refl) (starts_here part rest)

-- a run that does not go on
pub run_len : (test : ℕ → Bool) (run rest : List ℕ) → list_all test run ≡ true → first_is test rest ≡ false → prefix_len test (run ++ rest) ≡ length run
run_len test [] [] all ends = refl
run_len test [] (c ∷ cs) all ends = cond-false (test c) (1 + prefix_len test cs) 0 ends
run_len test (c ∷ run) rest all ends =
    let parts = and_parts (test c) (list_all test run) all in
    let e = run_len test run rest parts.1 ends in
    cond-true (test c) (1 + prefix_len test (run ++ rest)) 0 parts.0 ∙ omega (arith, e)

-- the run that a text begins with passes, and does not go on
pub run_passes : (test : ℕ → Bool) (text : List ℕ) → list_all test (take (prefix_len test text) text) ≡ true
run_passes test [] = refl
run_passes test (c ∷ cs) =
    let one : 1 + prefix_len test cs ≡ suc (prefix_len test cs) = omega arith in
    cond_both (test c) (1 + prefix_len test cs) 0 (λ n. list_all test (take n (c ∷ cs)) ≡ true)
    (λ passes. rw one (and_from (test c) (list_all test (take (prefix_len test cs) cs)) passes (run_passes test cs)))
    (λ _. refl)

pub run_ends : (test : ℕ → Bool) (text : List ℕ) → first_is test (drop (prefix_len test text) text) ≡ false
run_ends test [] = refl
run_ends test (c ∷ cs) =
    let one : 1 + prefix_len test cs ≡ suc (prefix_len test cs) = omega arith in
    cond_both (test c) (1 + prefix_len test cs) 0 (λ n. first_is test (drop n (c ∷ cs)) ≡ false) (λ _. rw one (run_ends test cs)) (λ fails. fails)

-- nothing stands in the empty text
pub nil_apart : (before : List ℕ) (c : ℕ) (after : List ℕ) → [] ≡ before ++ (c ∷ after) → ⊥
nil_apart [] c after e = cc
nil_apart (b ∷ before) c after e = cc

-- a character stands nowhere exactly where all others differ from it
all_differ : (q : ℕ) (text before after : List ℕ) → list_all (λ c. not (eqb c q)) text ≡ true → text ≡ before ++ (q ∷ after) → ⊥
all_differ q [] before after all e = nil_apart before q after e
all_differ q (c ∷ text) [] after all e =
    eqb-false c q (not-true (eqb c q) (and_parts (not (eqb c q)) (list_all (λ d. not (eqb d q)) text) all).0) cc
all_differ q (c ∷ text) (b ∷ before) after all e = all_differ q text before after (and_parts (not (eqb c q)) (list_all (λ d. not (eqb d q)) text) all).1 cc

pub none_holds : (q : ℕ) (text : List ℕ) → list_all (λ c. not (eqb c q)) text ≡ true → ¬ Holds text (q ∷ [])
none_holds q text all holds = all_differ q text holds.0 holds.1 all holds.2

pub none_passes : (q : ℕ) (text : List ℕ) → ¬ Holds text (q ∷ []) → list_all (λ c. not (eqb c q)) text ≡ true
none_passes q [] none = refl
none_passes q (c ∷ text) none =
    and_from (not (eqb c q)) (list_all (λ d. not (eqb d q)) text)
    (not_from_false (eqb c q) (ne_eqb c q (λ same. none ([], text, ap (λ d. d ∷ text) same))))
    (none_passes q text (λ holds. none (c ∷ holds.0, holds.1, ap (λ t. c ∷ t) holds.2)))
