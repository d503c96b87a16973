-- Steps of a work.
use Rattle.std.proofs.Common.{◌≡◌, ℕ, ◌+◌, ◌-◌, ◌*◌, ◌<◌, ◌≤◌, List, [], ◌∷◌, ◌++◌, length, drop, Ok, Err, Some, ◌∙◌, ap, refl, sym, arith, length-append}
use Rattle.std.specs.Prelude.{Result, take, Bool, true, false, cond}
use Rattle.std.specs.Bool.{OnTrue, OnFalse}
use Rattle.std.proofs.lemmas.List.{append-nil}
use Rattle.dtd_scanner.proofs.Walking.{bind_ok}
use Rattle.dtd_scanner.specs.References.{named}
use Rattle.pe_expansion.specs.Bound.{Bound}
use Rattle.pe_expansion.specs.Pieces.{first_piece}
use Rattle.pe_expansion.specs.Opening.{opening}
use Rattle.pe_expansion.specs.Expansion.{Written, with, padded, closed, expansion_of}
use Rattle.pe_expansion.specs.Outcomes.{Fails}
use Rattle.pe_expansion.specs.Frames.{open_names, from, left, left_of, size_of, waiting, GoesOn}
use Rattle.pe_expansion.specs.declared.pieces.Manner.{Manner}
use Rattle.pe_expansion.specs.declared.pieces.Kind.TheVariants.{Char, Kept, Included}
use Rattle.pe_expansion.specs.declared.stack.Frame.{Frame}
use Rattle.pe_expansion.specs.declared.stack.Work.{Work}
use Rattle.pe_expansion.specs.declared.faults.PeFault.{PeFault}
use Rattle.pe_expansion.specs.declared.faults.PeFault.TheVariants.{NoMemory}
use Rattle.pe_expansion.proofs.OpenNames.{open_names_length}
use Rattle.pe_expansion.proofs.Waiting.{left_end, left_done, left_piece, left_refused, left_in, waiting_push}

-- a fault stays
pub fails_as : {X Y : Type 0} (f : PeFault) (r : Result X PeFault) (s : Result Y PeFault) → (r ≡ Err f → s ≡ Err f) → Fails f r → Fails f s
fails_as NoMemory r s same h = tt
fails_as f r s same h = same h

module _ (manner : Manner) (bound : Bound) (chain : List (List ℕ)) where
  -- a text ends, and the last frame goes on
  pub ends_left : (fs : List Frame) (f : Frame) (text : List ℕ) (at : ℕ) (w v : Written) (frames : List Frame) → length text ≤ at → frames ≡ fs ++ f ∷ [] → closed manner f.name.now f.start w ≡ Ok v
      → left manner bound chain fs f.text.now f.at v ≡ left manner bound chain frames text at w
  ends_left fs f text at w v frames end is closes = rw is (sym (left_end manner bound chain fs text at w f end ∙ rw closes refl))

  -- a text ends, and breaks nesting
  pub ends_fault : (fs : List Frame) (f : Frame) (text : List ℕ) (at : ℕ) (w : Written) (frames : List Frame) (fault : PeFault) → length text ≤ at → frames ≡ fs ++ f ∷ [] → Fails fault (closed manner f.name.now f.start w)
      → Fails fault (left manner bound chain frames text at w)
  ends_fault fs f text at w frames fault end is = fails_as fault _ _ (λ breaks. rw is (left_end manner bound chain fs text at w f end ∙ rw breaks refl))

  pub ends_all : (text : List ℕ) (at : ℕ) (w : Written) (frames : List Frame) → length text ≤ at → length frames ≡ 0 → left manner bound chain frames text at w ≡ Ok w
  ends_all text at w [] end none = left_done manner bound chain [] text at w end
  ends_all text at w (f ∷ fs) end none = absurd (omega arith)

  -- a character
  pub put_left : (frames : List Frame) (text : List ℕ) (at : ℕ) (w : Written) (c len : ℕ) (now : List ℕ) → at + len ≤ length text → 1 ≤ len
      → first_piece manner (drop at text) ≡ Some (record { kind = Char c; len = len }) → now ≡ w.text ++ c ∷ []
      → left manner bound chain frames text (at + len) (record { text = now; spent = w.spent }) ≡ left manner bound chain frames text at w
  put_left frames text at w c len now within some piece is =
      rw is (sym (left_piece manner bound chain frames text at w (record { kind = Char c; len = len }) (with w (c ∷ [])) (omega arith) piece (omega arith) refl))

  -- a part that is kept
  pub keep_left : (frames : List Frame) (text : List ℕ) (at : ℕ) (w : Written) (len : ℕ) (now : List ℕ) → at + len ≤ length text → 1 ≤ len
      → first_piece manner (drop at text) ≡ Some (record { kind = Kept; len = len }) → now ≡ w.text ++ take (at + len - at) (drop at text)
      → left manner bound chain frames text (at + len) (record { text = now; spent = w.spent }) ≡ left manner bound chain frames text at w
  keep_left frames text at w len now within some piece is =
      let e : at + len - at ≡ len = omega arith in
      rw (is, e) (sym (left_piece manner bound chain frames text at w (record { kind = Kept; len = len }) (with w (take len (drop at text))) (omega arith) piece (omega arith) refl))

  -- a reference that does not open
  pub refused_left : (frames : List Frame) (text : List ℕ) (at : ℕ) (w : Written) (len : ℕ) (f : PeFault) → at + len ≤ length text → 2 ≤ len
      → first_piece manner (drop at text) ≡ Some (record { kind = Included; len = len }) → Fails f (opening bound (open_names chain frames) w.spent (named len (drop at text)))
      → Fails f (left manner bound chain frames text at w)
  refused_left frames text at w len f within some piece = fails_as f _ _ (left_refused manner bound chain frames text at w len f (omega arith) piece (omega arith))

  -- a reference that opens
  pub opens_left : (frames : List Frame) (text : List ℕ) (at : ℕ) (w : Written) (len : ℕ) (inner : List ℕ) (spent : ℕ) (f : Frame) (now : List Frame) (padding : List ℕ) → at + len ≤ length text → 2 ≤ len
      → first_piece manner (drop at text) ≡ Some (record { kind = Included; len = len }) → opening bound (open_names chain frames) w.spent (named len (drop at text)) ≡ Ok (inner, spent)
      → length chain + length frames < 32 → f.name.now ≡ named len (drop at text) → f.text.now ≡ text → f.at ≡ at + len → f.start ≡ length padding → now ≡ frames ++ f ∷ [] → padding ≡ padded manner w.text
      → left manner bound chain now inner 0 (record { text = padding; spent = spent }) ≡ left manner bound chain frames text at w
  opens_left frames text at w len inner spent f now padding within some piece opens room name same place begins is pads =
      rw (is, pads) (sym (left_in manner bound chain frames text at w len (inner, spent) f (omega arith) piece (omega arith) opens (rw open_names_length room) name same place (begins ∙ ap length pads)))

  -- the work at its beginning
  pub begins : (spent : ℕ) (text : List ℕ) → left manner bound chain [] text 0 (record { text = []; spent = spent }) ≡ expansion_of manner bound chain spent text
  unfolding expansion_of
  begins spent text =
      let w : Written = record { text = []; spent = spent } in
      bind_ok (from manner bound (chain ++ []) text 0 w) ∙ ap (λ names. from manner bound names text 0 w) (append-nil chain)

pub ends_size : (fs : List Frame) (f : Frame) (text : List ℕ) (at spent : ℕ) (frames : List Frame) → length text ≤ at → frames ≡ fs ++ f ∷ []
    → 2 * ((67108864 - spent) + ((length f.text.now - f.at) + waiting fs)) + length fs < 2 * ((67108864 - spent) + ((length text - at) + waiting frames)) + length frames
ends_size fs f text at spent frames end is = rw (is, waiting_push, length-append) (omega arith)

pub opens_size : (frames : List Frame) (text : List ℕ) (at len was spent : ℕ) (inner : List ℕ) (f : Frame) (now : List Frame) → at + len ≤ length text → 2 ≤ len → spent ≡ was + length inner → spent ≤ 67108864
    → length f.text.now ≡ length text → f.at ≡ at + len → now ≡ frames ++ f ∷ []
    → 2 * ((67108864 - spent) + ((length inner - 0) + waiting now)) + length now < 2 * ((67108864 - was) + ((length text - at) + waiting frames)) + length frames
opens_size frames text at len was spent inner f now within some counted room same place is = rw (is, waiting_push, length-append) (omega arith)

-- the end of a text keeps what is left, until nothing is, and comes nearer to the end
pub goes_on_keeps : (manner : Manner) (bound : Bound) (chain : List (List ℕ)) (old new : Work) (said : Result Written PeFault) (more : Bool) → GoesOn manner bound chain old new (Ok more) → left_of manner bound chain old ≡ said
    → OnTrue more (left_of manner bound chain new ≡ said) × OnFalse more (said ≡ Ok (record { text = new.written; spent = new.spent }))
goes_on_keeps manner bound chain old new said true goes is = (goes.0 ∙ is, tt)
goes_on_keeps manner bound chain old new said false done is = (tt, sym is ∙ done)

pub goes_on_smaller : (manner : Manner) (bound : Bound) (chain : List (List ℕ)) (old new : Work) (more : Bool) → GoesOn manner bound chain old new (Ok more) → cond more (size_of new + 1) 0 < size_of old + 1
goes_on_smaller manner bound chain old new true goes = omega (arith, goes.1)
goes_on_smaller manner bound chain old new false done = omega arith
