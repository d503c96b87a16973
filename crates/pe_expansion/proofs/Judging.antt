-- Steps of a work keep what it judges.
use Rattle.std.proofs.Common.{◌≡◌, ◌∙◌, ℕ, ◌+◌, ◌-◌, ◌<◌, ◌≤◌, List, [], ◌∷◌, ◌++◌, length, take, drop, get_or, Ok, Err, Some, None, Bool, true, false, cond, not, ◌&&◌, ◌||◌, eqb, refl, sym, ap, arith, length-drop}
use Rattle.std.specs.Prelude.{Result, nat_lt}
use Rattle.std.proofs.lemmas.List.{get_or-drop, get_or_read, append-nil}
use Rattle.std.proofs.lemmas.Bool.{lt-ltb, le-ltb}
use Rattle.pe_expansion.specs.Pieces.{first_piece}
use Rattle.pe_expansion.specs.Expansion.{Written, nests, padded, closed}
use Rattle.pe_expansion.specs.Nesting.{JudgedSoFar, IsJudged}
use Rattle.pe_expansion.specs.declared.pieces.Manner.{Manner}
use Rattle.pe_expansion.specs.declared.pieces.Manner.TheVariants.{Literal, Body}
use Rattle.pe_expansion.specs.declared.pieces.Kind.TheVariants.{Char, Kept}
use Rattle.pe_expansion.specs.declared.stack.Frame.{Frame}
use Rattle.pe_expansion.specs.declared.faults.PeFault.{PeFault}
use Rattle.pe_expansion.specs.declared.faults.PeFault.TheVariants.{PeNesting}
use Rattle.pe_expansion.proofs.Nesting.{written_on, opened_on, closed_on, ended, char_judged, char_plain, kept_closes, kept_judged}

-- a quoted part of a body, by its first and its last character
pub closes_longer : (manner : Manner) (text : List ℕ) (at len last first : ℕ) → at + len ≤ length text → first_piece manner (drop at text) ≡ Some (record { kind = Kept; len = len }) → 1 < len
    → last ≡ get_or text (at + len - 1) last → first ≡ get_or text at first → manner ≡ Body → eqb last first ≡ nests None (take len (drop at text))
closes_longer Literal text at len last first within piece long end start body = absurd cc
closes_longer Body text at len last first within piece long end start body =
    let place : at + len - 1 ≡ at + (len - 1) = omega arith in
    let here : at ≡ at + 0 = omega arith in
    let longer : nat_lt 1 len ≡ true = lt-ltb 1 len long in
    let at_end : last ≡ get_or (drop at text) (len - 1) 0 = get_or_read text (at + len - 1) last (omega arith) end 0 ∙ ap (λ k. get_or text k 0) place ∙ sym (get_or-drop at text (len - 1) 0) in
    let at_start : first ≡ get_or (drop at text) 0 0 = get_or_read text at first (omega arith) start 0 ∙ ap (λ k. get_or text k 0) here ∙ sym (get_or-drop at text 0 0) in
    let told = kept_closes (drop at text) len piece in
    rw (at_end, at_start) (ap (λ b. b && eqb (get_or (drop at text) (len - 1) 0) (get_or (drop at text) 0 0)) (sym longer) ∙ told)

pub closes_single : (manner : Manner) (text : List ℕ) (at len : ℕ) → first_piece manner (drop at text) ≡ Some (record { kind = Kept; len = len }) → len ≤ 1 → manner ≡ Body → nat_lt 1 len ≡ nests None (take len (drop at text))
closes_single Literal text at len piece short body = absurd cc
closes_single Body text at len piece short body =
    let shorter : nat_lt 1 len ≡ false = le-ltb 1 len short in
    shorter ∙ ap (λ b. b && eqb (get_or (drop at text) (len - 1) 0) (get_or (drop at text) 0 0)) (sym shorter) ∙ kept_closes (drop at text) len piece

pub put_judged : (manner : Manner) (broken after : Bool) (frames : List Frame) (text : List ℕ) (at : ℕ) (written : List ℕ) (c len : ℕ) (now : List ℕ) → at + len ≤ length text → 1 ≤ len
    → first_piece manner (drop at text) ≡ Some (record { kind = Char c; len = len }) → now ≡ written ++ c ∷ [] → after ≡ (broken || (eqb c 60 || eqb c 62))
    → IsJudged manner broken (length text - at) written frames → IsJudged manner after (length text - (at + len)) now frames
put_judged Literal broken after frames text at written c len now within some piece is breaks judged = tt
put_judged Body broken after frames text at written c len now within some piece is breaks judged =
    rw (is, breaks) (written_on broken (eqb c 60 || eqb c 62) (length text - at) (length text - (at + len)) written (c ∷ []) 0 frames (omega arith) (char_judged c (length text - (at + len)) (char_plain (drop at text) c len piece)) judged)

pub keep_judged : (manner : Manner) (broken after : Bool) (frames : List Frame) (text : List ℕ) (at : ℕ) (written : List ℕ) (len : ℕ) (now : List ℕ) → at + len ≤ length text → 1 ≤ len
    → first_piece manner (drop at text) ≡ Some (record { kind = Kept; len = len }) → now ≡ written ++ take (at + len - at) (drop at text) → (manner ≡ Body → after ≡ (broken || not (nests None (take len (drop at text)))))
    → IsJudged manner broken (length text - at) written frames → IsJudged manner after (length text - (at + len)) now frames
keep_judged Literal broken after frames text at written len now within some piece is breaks judged = tt
keep_judged Body broken after frames text at written len now within some piece is breaks judged =
    let part = take len (drop at text) in
    let size : at + len - at ≡ len = omega arith in
    let left : length (drop at text) - len ≡ length text - (at + len) = simp length-drop (omega arith) in
    let so : JudgedSoFar (not (nests None part)) (length text - (at + len)) part = rw (← left) (kept_judged (drop at text) len piece) in
    rw (is, size, breaks refl) (written_on broken (not (nests None part)) (length text - at) (length text - (at + len)) written part 0 frames (omega arith) so judged)

pub opens_judged : (manner : Manner) (broken : Bool) (frames : List Frame) (text : List ℕ) (at : ℕ) (written : List ℕ) (len later : ℕ) (f : Frame) (now : List Frame) (padding : List ℕ) → at + len ≤ length text → 2 ≤ len
    → f.start ≡ length padding → f.broken ≡ broken → now ≡ frames ++ f ∷ [] → padding ≡ padded manner written
    → IsJudged manner broken (length text - at) written frames → IsJudged manner false later padding now
opens_judged Literal broken frames text at written len later f now padding within some begins same is pads judged = tt
opens_judged Body broken frames text at written len later f now padding within some begins same is pads judged =
    rw (is, pads) (opened_on broken (length text - at) later written f 0 frames (omega arith) (begins ∙ ap length pads) same judged)

-- what an included text has become is judged
pub ended_judged : (manner : Manner) (broken : Bool) (fs : List Frame) (f : Frame) (text : List ℕ) (at : ℕ) (written : List ℕ) (frames : List Frame) → length text ≤ at → frames ≡ fs ++ f ∷ []
    → IsJudged manner broken (length text - at) written frames → manner ≡ Body → nests None (drop f.start written) ≡ not broken
ended_judged Literal broken fs f text at written frames end is judged body = absurd cc
ended_judged Body broken fs f text at written frames end is judged body =
    let none : length text - at ≡ 0 = omega arith in
    ended broken written f 0 fs (rw (is, none) at judged)

abbrev written_of : Result Written PeFault → List ℕ
written_of (Ok w) = w.text
written_of (Err fault) = []

pub ends_judged : (manner : Manner) (broken : Bool) (fs : List Frame) (f : Frame) (left later : ℕ) (written : List ℕ) (spent : ℕ) (now : List ℕ) (frames : List Frame) → frames ≡ fs ++ f ∷ []
    → closed manner f.name.now f.start (record { text = written; spent = spent }) ≡ Ok (record { text = now; spent = spent }) → IsJudged manner broken left written frames → IsJudged manner f.broken later now fs
ends_judged Literal broken fs f left later written spent now frames is closes judged = tt
ends_judged Body broken fs f left later written spent now frames is closes judged = by (nests None (drop f.start written)) refl closes
  where
    by : (nested : Bool) → nests None (drop f.start written) ≡ nested
        → cond {A = Result Written PeFault} nested (Ok (record { text = written ++ 32 ∷ []; spent = spent })) (Err (PeNesting f.name.now)) ≡ Ok (record { text = now; spent = spent }) → IsJudged Body f.broken later now fs
    by true e is_now = let pads : written ++ 32 ∷ [] ≡ now = ap written_of is_now in rw (← pads) (closed_on broken left later written f 0 fs e (rw is at judged))
    by false e is_now = absurd cc

-- nothing is written
pub begins_judged : (manner : Manner) (left : ℕ) (written : List ℕ) (frames : List Frame) → written ≡ [] → frames ≡ [] → IsJudged manner false left written frames
begins_judged Literal left written frames empty none = tt
begins_judged Body left written frames empty none = rw (empty, none) (omega arith, λ more ends. refl)

-- no text waits
pub done_judged : (manner : Manner) (broken : Bool) (left : ℕ) (written : List ℕ) (frames rest : List Frame) → frames ≡ rest ++ [] → IsJudged manner broken left written frames → IsJudged manner broken left written rest
done_judged manner broken left written frames rest is judged = rw (is, append-nil rest) at judged
