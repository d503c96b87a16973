-- Characters that stand for themselves, many at once.
use Rattle.std.proofs.Common.{◌≡◌, ◌∙◌, ℕ, ◌+◌, ◌-◌, ◌<◌, List, [], ◌∷◌, ◌++◌, length, take, drop, suc, Bool, true, false, eqb, ◌&&◌, ◌||◌, Some, Result, Ok, refl, ap, sym, arith}
use Rattle.std.specs.Prelude.{codes, nat_eq, if◌then◌else◌}
use Rattle.std.proofs.lemmas.List.{take-append-drop}
use Rattle.article_tree.specs.Plain.{ends_run, run_len}
use Rattle.std.specs.List.{starts_with}
use Rattle.std.proofs.lemmas.Bool.{cond-false, false≢true}
use Rattle.jats_chars.specs.Classes.{is_space}
use Rattle.dtd_scanner.specs.Walk.{over}
use Rattle.jats_fault.specs.declared.fault.Fault.{Fault}
use Rattle.document_trees.specs.Trees.{Items, nothing, chars, is_white}
use Rattle.decl_set.specs.Declarations.{Entity}
use Rattle.article_tree.specs.Tokens.{letter}
use Rattle.article_tree.specs.Words.{Names}
use Rattle.article_tree.specs.Taking.{first_token}
use Rattle.article_tree.specs.Stops.{Standing}
use Rattle.article_tree.specs.Reading.{State, put}
use Rattle.article_tree.specs.InPlace.{Deep, by_token_in, step_in}
use Rattle.article_tree.proofs.Joining.{joined_assoc}
use Rattle.dtd_scanner.proofs.Walking.{over_next}

-- each of these characters stands for itself, in front of this rest
abbrev pub AreLetters : List ℕ → List ℕ → Type 0
AreLetters [] rest = Unit {0}
AreLetters (c ∷ cs) rest = (eqb c 38 ≡ false) × (eqb c 60 ≡ false) × (starts_with nat_eq (c ∷ (cs ++ rest)) (codes "]]>") ≡ false) × AreLetters cs rest

pub letter_first : (c : ℕ) (cs : List ℕ) → eqb c 38 ≡ false → eqb c 60 ≡ false → starts_with nat_eq (c ∷ cs) (codes "]]>") ≡ false → first_token (c ∷ cs) ≡ Some (letter c, cs)
unfolding first_token
letter_first c cs and less apart = cond-false (eqb c 38) _ _ and ∙ cond-false (eqb c 60) _ _ less ∙ cond-false (starts_with nat_eq (c ∷ cs) (codes "]]>")) _ _ apart

module _ (entities : List Entity) (deeper : Deep) (names : Names) (base : ℕ) (c : Standing) where
  abbrev step : ℕ → State → List ℕ → Result (State × ℕ) Fault
  step = step_in entities deeper names base c

  one_letter : (at : ℕ) (s : State) (d : ℕ) (ds : List ℕ) → eqb d 38 ≡ false → eqb d 60 ≡ false → starts_with nat_eq (d ∷ ds) (codes "]]>") ≡ false
      → over step at s (d ∷ ds) ≡ over step (at + 1) (put s (chars (d ∷ []) (is_space d) nothing)) ds
  one_letter at s d ds and less apart =
      let v = put s (chars (d ∷ []) (is_space d) nothing) in
      let one : length (d ∷ ds) - length ds ≡ 1 = omega arith in
      over_next step at 1 s (d ∷ ds) (Ok v) (omega arith) (omega arith)
      (ap (by_token_in entities deeper names base c at s (d ∷ ds)) (letter_first d ds and less apart) ∙ ap (λ (n : ℕ). taken v n) one)
    where
      taken : State → ℕ → Result (State × ℕ) Fault
      taken v n = Ok (v, n)

  -- a run of them is put at once
  pub run_over : (cs rest : List ℕ) (at : ℕ) (s : State) → 0 < length cs → AreLetters cs rest → over step at s (cs ++ rest) ≡ over step (at + length cs) (put s (chars cs (is_white cs) nothing)) rest
  run_over [] rest at s some are = absurd (omega arith)
  run_over (d ∷ []) rest at s some are = one_letter at s d rest are.0 are.1 are.2 ∙ ap (λ b. over step (at + 1) (put s (chars (d ∷ []) b nothing)) rest) (sym (and_true (is_space d)))
    where
      and_true : (b : Bool) → (b && true) ≡ b
      and_true true = refl
      and_true false = refl
  run_over (d ∷ e ∷ cs) rest at s some are =
      let v = put s (chars (d ∷ []) (is_space d) nothing) in
      let there : at + 1 + length (e ∷ cs) ≡ at + length (d ∷ e ∷ cs) = omega arith in
      one_letter at s d ((e ∷ cs) ++ rest) are.0 are.1 are.2
      ∙ run_over (e ∷ cs) rest (at + 1) v (omega arith) are.3
      ∙ ap (λ (n : ℕ). over step n (put v (chars (e ∷ cs) (is_white (e ∷ cs)) nothing)) rest) there
      ∙ ap (λ (x : Items). over step (at + length (d ∷ e ∷ cs)) (record { opens = s.opens; items = x; spent = s.spent }) rest) (joined_assoc s.items (chars (d ∷ []) (is_space d) nothing) (chars (e ∷ cs) (is_white (e ∷ cs)) nothing))

-- ---- how many

or_false : (a b : Bool) → (a || b) ≡ false → (a ≡ false) × (b ≡ false)
or_false true b e = absurd (false≢true (sym e))
or_false false b e = (refl, e)

-- the characters that are counted stand for themselves
pub run_letters : (text : List ℕ) → AreLetters (take (run_len text) text) (drop (run_len text) text)
unfolding run_len
run_letters [] = tt
run_letters (c ∷ cs) = by (run_letters cs) (ends_run c cs) refl
  where
    by : AreLetters (take (run_len cs) cs) (drop (run_len cs) cs) → (b : Bool) → ends_run c cs ≡ b → AreLetters (take (if b then 0 else 1 + run_len cs) (c ∷ cs)) (drop (if b then 0 else 1 + run_len cs) (c ∷ cs))
    by later true is = tt
    by later false is =
        let n = run_len cs in
        let e : 1 + n ≡ suc n = omega arith in
        let h = or_false (eqb c 38) (eqb c 60 || starts_with nat_eq (c ∷ cs) (codes "]]>")) is in
        let k = or_false (eqb c 60) (starts_with nat_eq (c ∷ cs) (codes "]]>")) h.1 in
        rw e (h.0, k.0, ap (λ (t : List ℕ). starts_with nat_eq (c ∷ t) (codes "]]>")) (take-append-drop n cs) ∙ k.1, later)
