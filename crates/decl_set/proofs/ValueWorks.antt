-- Steps of the work at a value.
use Rattle.std.proofs.Common.{◌≡◌, ℕ, ◌+◌, ◌-◌, ◌*◌, ◌<◌, ◌≤◌, List, [], ◌∷◌, ◌++◌, length, drop, Ok, Err, Some, None, ◌∙◌, ap, sym, arith, length-append}
use Rattle.std.specs.Prelude.{Result, Bool, true, false, cond}
use Rattle.std.specs.Bool.{OnTrue, OnFalse}
use Rattle.std.proofs.lemmas.List.{append-nil}
use Rattle.dtd_scanner.specs.References.{named}
use Rattle.dtd_scanner.proofs.Walking.{bind_ok}
use Rattle.pe_expansion.specs.Expansion.{Written}
use Rattle.decl_set.specs.Declarations.{Entity}
use Rattle.decl_set.specs.Outcomes.{ValueFails}
use Rattle.decl_set.specs.Values.{opening, predefined, value_of, value_piece}
use Rattle.decl_set.specs.ValueFrames.{open_names, from, left, left_of, size_of, waiting, GoesOn, StandsFor}
use Rattle.decl_set.specs.declared.pieces.Kind.TheVariants.{Named}
use Rattle.decl_set.specs.declared.value_stack.Frame.{Frame}
use Rattle.decl_set.specs.declared.value_stack.Work.{Work}
use Rattle.decl_set.specs.declared.faults.ValueFault.{ValueFault}
use Rattle.decl_set.specs.declared.faults.ValueFault.TheVariants.{NoMemory}
use Rattle.decl_set.proofs.ValueNames.{open_names_length}
use Rattle.decl_set.proofs.ValueWaiting.{left_end, left_done, left_char, left_refused, left_in, waiting_push}

-- a fault stays
pub fails_as : {X Y : Type 0} (f : ValueFault) (r : Result X ValueFault) (s : Result Y ValueFault) → (r ≡ Err f → s ≡ Err f) → ValueFails f r → ValueFails f s
fails_as NoMemory r s same h = tt
fails_as f r s same h = same h

module _ (entities : List Entity) (chain : List (List ℕ)) where
  -- a text ends, and the last frame goes on
  pub ends_left : (fs : List Frame) (f : Frame) (text : List ℕ) (at : ℕ) (w : Written) (frames : List Frame) → length text ≤ at → frames ≡ fs ++ f ∷ []
      → left entities chain fs f.text.now f.at w ≡ left entities chain frames text at w
  ends_left fs f text at w frames end is = rw is (sym (left_end entities chain fs text at w f end))

  pub ends_all : (text : List ℕ) (at : ℕ) (w : Written) (frames : List Frame) → length text ≤ at → length frames ≡ 0 → left entities chain frames text at w ≡ Ok w
  ends_all text at w [] end none = left_done entities chain [] text at w end
  ends_all text at w (f ∷ fs) end none = absurd (omega arith)

  -- a character
  pub put_left : (frames : List Frame) (text : List ℕ) (at : ℕ) (w : Written) (c len : ℕ) (now : List ℕ) → at + len ≤ length text → 1 ≤ len
      → StandsFor (drop at text) c len → now ≡ w.text ++ c ∷ []
      → left entities chain frames text (at + len) (record { text = now; spent = w.spent }) ≡ left entities chain frames text at w
  put_left frames text at w c len now within some stands is = rw is (sym (left_char entities chain frames text at w c len (omega arith) (omega arith) stands))

  -- a reference that does not open
  pub refused_left : (frames : List Frame) (text : List ℕ) (at : ℕ) (w : Written) (len : ℕ) (f : ValueFault) → at + len ≤ length text → 2 ≤ len
      → value_piece (drop at text) ≡ Some (record { kind = Named; len = len }) → predefined (named len (drop at text)) ≡ None
      → ValueFails f (opening entities (open_names chain frames) w.spent (named len (drop at text)))
      → ValueFails f (left entities chain frames text at w)
  refused_left frames text at w len f within some piece other = fails_as f _ _ (left_refused entities chain frames text at w len f (omega arith) piece (omega arith) other)

  -- a reference that opens
  pub opens_left : (frames : List Frame) (text : List ℕ) (at : ℕ) (w : Written) (len : ℕ) (inner : List ℕ) (spent : ℕ) (f : Frame) (now : List Frame) → at + len ≤ length text → 2 ≤ len
      → value_piece (drop at text) ≡ Some (record { kind = Named; len = len }) → predefined (named len (drop at text)) ≡ None
      → opening entities (open_names chain frames) w.spent (named len (drop at text)) ≡ Ok (inner, spent)
      → length chain + length frames < 32 → f.name.now ≡ named len (drop at text) → f.text.now ≡ text → f.at ≡ at + len → now ≡ frames ++ f ∷ []
      → left entities chain now inner 0 (record { text = w.text; spent = spent }) ≡ left entities chain frames text at w
  opens_left frames text at w len inner spent f now within some piece other opens room name same place is =
      rw is (sym (left_in entities chain frames text at w len (inner, spent) f (omega arith) piece (omega arith) other opens (rw open_names_length room) name same place))

  -- the work at its beginning
  pub begins : (spent : ℕ) (text : List ℕ) → left entities chain [] text 0 (record { text = []; spent = spent }) ≡ value_of entities chain spent text
  unfolding value_of
  begins spent text =
      let w : Written = record { text = []; spent = spent } in
      bind_ok (from entities (chain ++ []) text 0 w) ∙ ap (λ names. from entities names text 0 w) (append-nil chain)

pub ends_size : (fs : List Frame) (f : Frame) (text : List ℕ) (at spent : ℕ) (frames : List Frame) → length text ≤ at → frames ≡ fs ++ f ∷ []
    → 2 * ((67108864 - spent) + ((length f.text.now - f.at) + waiting fs)) + length fs < 2 * ((67108864 - spent) + ((length text - at) + waiting frames)) + length frames
ends_size fs f text at spent frames end is = rw (is, waiting_push, length-append) (omega arith)

pub opens_size : (frames : List Frame) (text : List ℕ) (at len was spent : ℕ) (inner : List ℕ) (f : Frame) (now : List Frame) → at + len ≤ length text → 2 ≤ len → spent ≡ was + length inner → spent ≤ 67108864
    → length f.text.now ≡ length text → f.at ≡ at + len → now ≡ frames ++ f ∷ []
    → 2 * ((67108864 - spent) + ((length inner - 0) + waiting now)) + length now < 2 * ((67108864 - was) + ((length text - at) + waiting frames)) + length frames
opens_size frames text at len was spent inner f now within some counted room same place is = rw (is, waiting_push, length-append) (omega arith)

-- the end of a text keeps what is left, until nothing is, and comes nearer to the end
pub goes_on_keeps : (entities : List Entity) (chain : List (List ℕ)) (old new : Work) (said : Result Written ValueFault) (more : Bool) → GoesOn entities chain old new more → left_of entities chain old ≡ said
    → OnTrue more (left_of entities chain new ≡ said) × OnFalse more (said ≡ Ok (record { text = new.written; spent = new.spent }))
goes_on_keeps entities chain old new said true goes is = (goes.0 ∙ is, tt)
goes_on_keeps entities chain old new said false done is = (tt, sym is ∙ done)

pub goes_on_smaller : (entities : List Entity) (chain : List (List ℕ)) (old new : Work) (more : Bool) → GoesOn entities chain old new more → cond more (size_of new + 1) 0 < size_of old + 1
goes_on_smaller entities chain old new true goes = omega (arith, goes.1)
goes_on_smaller entities chain old new false done = omega arith
