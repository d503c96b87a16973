-- Runs of characters that stand for themselves.
use Rattle.std.proofs.Common.{◌≡◌, ◌∙◌, ℕ, zero, suc, ◌+◌, ◌-◌, ◌<◌, ◌≤◌, List, [], ◌∷◌, ◌++◌, length, take, drop, Some, None, Bool, true, false, cond, not, ◌||◌, eqb, refl, sym, ap, arith, append_assoc, length-drop}
use Rattle.std.specs.List.{prefix_len}
use Rattle.std.proofs.lemmas.List.{append-nil, drop-drop}
use Rattle.std.proofs.lemmas.Bool.{false≢true}
use Rattle.std.proofs.Math.Bool.{or-false}
use Rattle.dtd_scanner.specs.Items.{is_quote}
use Rattle.pe_expansion.specs.Bound.{Bound}
use Rattle.pe_expansion.specs.Pieces.{first_piece, literal_piece, body_piece, is_plain}
use Rattle.pe_expansion.specs.Expansion.{Written, with, nests}
use Rattle.pe_expansion.specs.Frames.{left}
use Rattle.pe_expansion.specs.Nesting.{JudgedSoFar, IsJudged}
use Rattle.pe_expansion.specs.declared.pieces.Manner.{Manner}
use Rattle.pe_expansion.specs.declared.pieces.Manner.TheVariants.{Literal, Body}
use Rattle.pe_expansion.specs.declared.pieces.Kind.TheVariants.{Char}
use Rattle.pe_expansion.specs.declared.stack.Frame.{Frame}
use Rattle.pe_expansion.proofs.Waiting.{left_piece}
use Rattle.pe_expansion.proofs.Nesting.{written_on}

neither : (a b : Bool) → not (a || b) ≡ true → (a ≡ false) × (b ≡ false)
neither true b is = absurd (false≢true is)
neither false true is = absurd (false≢true is)
neither false false is = (refl, refl)

-- the first piece is such a character
plain_first : (manner : Manner) (c : ℕ) (cs : List ℕ) → is_plain manner c ≡ true → first_piece manner (c ∷ cs) ≡ Some (record { kind = Char c; len = 1 })
unfolding literal_piece body_piece
plain_first Literal c cs is = let apart = neither (eqb c 37) (eqb c 38) is in rw (apart.0, apart.1) refl
plain_first Body c cs is =
    let apart = neither (is_quote c) (eqb c 37 || (eqb c 60 || eqb c 62)) is in
    let others = neither (eqb c 37) (eqb c 60 || eqb c 62) (ap not apart.1) in
    rw (others.0, apart.0) refl

-- a run of at least one has such a character first, and a run behind it
run_first : (p : ℕ → Bool) (c : ℕ) (cs : List ℕ) (n : ℕ) → suc n ≤ prefix_len p (c ∷ cs) → (p c ≡ true) × (n ≤ prefix_len p cs)
run_first p c cs n within = by (p c) refl within
  where
    by : (passes : Bool) → p c ≡ passes → suc n ≤ cond passes (1 + prefix_len p cs) 0 → (p c ≡ true) × (n ≤ prefix_len p cs)
    by true e within = (e, omega (arith, within))
    by false e within = absurd (omega (arith, within))

-- what is left behind a run
run_left : (manner : Manner) (bound : Bound) (chain : List (List ℕ)) (frames : List Frame) (text rest : List ℕ) (n at : ℕ) (w : Written) → drop at text ≡ rest → n ≤ prefix_len (is_plain manner) rest
    → left manner bound chain frames text at w ≡ left manner bound chain frames text (at + n) (with w (take n rest))
run_left manner bound chain frames text rest zero at w here within =
    let place : at ≡ at + 0 = omega arith in
    ap (λ k. left manner bound chain frames text k w) place ∙ ap (λ written. left manner bound chain frames text (at + 0) (record { text = written; spent = w.spent })) (sym (append-nil w.text))
run_left manner bound chain frames text [] (suc n) at w here within = absurd (omega (arith, within))
run_left manner bound chain frames text (c ∷ cs) (suc n) at w here within =
    let first = run_first (is_plain manner) c cs n within in
    let inside : at < length text = omega (arith, length-drop at text, ap length here) in
    let piece : first_piece manner (drop at text) ≡ Some (record { kind = Char c; len = 1 }) = ap (first_piece manner) here ∙ plain_first manner c cs first.0 in
    let next : drop (at + 1) text ≡ cs = sym (drop-drop 1 at text) ∙ ap (drop 1) here in
    let place : at + 1 + n ≡ at + suc n = omega arith in
    left_piece manner bound chain frames text at w (record { kind = Char c; len = 1 }) (with w (c ∷ [])) inside piece (omega arith) refl
    ∙ run_left manner bound chain frames text cs n (at + 1) (with w (c ∷ [])) next first.1
    ∙ ap (λ k. left manner bound chain frames text k (with (with w (c ∷ [])) (take n cs))) place
    ∙ ap (λ written. left manner bound chain frames text (at + suc n) (record { text = written; spent = w.spent })) (append_assoc w.text (c ∷ []) (take n cs))

pub copy_left : (manner : Manner) (bound : Bound) (chain : List (List ℕ)) (frames : List Frame) (text : List ℕ) (at : ℕ) (w : Written) (len : ℕ) (now : List ℕ) → len ≤ prefix_len (is_plain manner) (drop at text)
    → now ≡ w.text ++ take (at + len - at) (drop at text) → left manner bound chain frames text (at + len) (record { text = now; spent = w.spent }) ≡ left manner bound chain frames text at w
copy_left manner bound chain frames text at w len now within is =
    let size : at + len - at ≡ len = omega arith in
    rw (is, size) (sym (run_left manner bound chain frames text (drop at text) len at w refl within))

-- nesting is the same behind a run
run_nests : (rest : List ℕ) (n : ℕ) (more : List ℕ) → n ≤ prefix_len (is_plain Body) rest → nests None (take n rest ++ more) ≡ nests None more
run_nests rest zero more within = refl
run_nests [] (suc n) more within = absurd (omega (arith, within))
run_nests (c ∷ cs) (suc n) more within =
    let first = run_first (is_plain Body) c cs n within in
    let apart = neither (is_quote c) (eqb c 37 || (eqb c 60 || eqb c 62)) first.0 in
    let marks = neither (eqb c 37) (eqb c 60 || eqb c 62) (ap not apart.1) in
    rw (marks.1, apart.0) (run_nests cs n more first.1)

pub copy_judged : (manner : Manner) (broken : Bool) (frames : List Frame) (text : List ℕ) (at : ℕ) (written : List ℕ) (len : ℕ) (now : List ℕ) → at + len ≤ length text → 1 ≤ len → len ≤ prefix_len (is_plain manner) (drop at text)
    → now ≡ written ++ take (at + len - at) (drop at text) → IsJudged manner broken (length text - at) written frames → IsJudged manner broken (length text - (at + len)) now frames
copy_judged Literal broken frames text at written len now within some plain is judged = tt
copy_judged Body broken frames text at written len now within some plain is judged =
    let size : at + len - at ≡ len = omega arith in
    let same : broken ≡ (broken || false) = sym (or-false broken) in
    let so : JudgedSoFar false (length text - (at + len)) (take len (drop at text)) = λ more ends. run_nests (drop at text) len more plain in
    rw (is, size, same) (written_on broken false (length text - at) (length text - (at + len)) written (take len (drop at text)) 0 frames (omega arith) so judged)
