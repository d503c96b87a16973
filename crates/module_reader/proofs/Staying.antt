-- Texts that a state keeps while it goes on.
use Rattle.std.proofs.Common.{◌≡◌, ◌∙◌, ℕ, suc, List, [], ◌∷◌, ◌++◌, Some, None, IsSome, refl, sym, ap, slice_get, subst}
use Rattle.std.specs.Prelude.{Option}
use Rattle.std.specs.List.{AllByRecursion}
use Rattle.module_reader.specs.Frames.{found, text_found, IsThere, passage_of, passages_from, passages_of}
use Rattle.module_reader.specs.Moves.{GoesOn, loaded_at}
use Rattle.module_reader.specs.Reading.{Names}
use Rattle.module_reader.specs.declared.frames.Frame.{Frame}
use Rattle.module_reader.specs.declared.state.State.{State}

module _ (s t : State) (goes : GoesOn s t) where
  found_stays : (o : Option ℕ) (e : List ℕ × List ℕ) → found s o ≡ Some e → found t o ≡ Some e
  found_stays None e is = goes.entry e.0 e.1 is
  found_stays (Some k) e is = goes.texts k e.0 e.1 is

  by_found : (o : Option ℕ) (x : Option (List ℕ × List ℕ)) → found s o ≡ x → IsSome x → found t o ≡ found s o
  by_found o None is there = cc
  by_found o (Some e) is there = found_stays o e is ∙ sym is

  pub text_stays : (o : Option ℕ) → IsSome (found s o) → found t o ≡ found s o
  text_stays o there = by_found o (found s o) refl there

  pub there_stays : (f : Frame) → IsThere s f → IsThere t f
  there_stays f there = subst IsSome (sym (text_stays f.text there)) there

  pub all_there_stay : (fs : List Frame) → AllByRecursion (IsThere s) fs → AllByRecursion (IsThere t) fs
  all_there_stay [] all = tt
  all_there_stay (f ∷ fs) all = (there_stays f all.0, all_there_stay fs all.1)

  module _ (names : Names) where
    pub passage_stays : (f : Frame) → IsThere s f → passage_of t names f ≡ passage_of s names f
    passage_stays f there = rw (text_stays f.text there) refl

    passages_stay_from : (n : ℕ) (fs : List Frame) → AllByRecursion (IsThere s) fs → passages_from t names n fs ≡ passages_from s names n fs
    passages_stay_from n [] all = refl
    passages_stay_from n (f ∷ fs) all = rw (text_stays f.text all.0, passages_stay_from (suc n) fs all.1) refl

    pub passages_stay : (fs : List Frame) → AllByRecursion (IsThere s) fs → passages_of t names fs ≡ passages_of s names fs
    passages_stay fs all = passages_stay_from 0 fs all

pub there_push : (s : State) (fs : List Frame) (f : Frame) → AllByRecursion (IsThere s) fs → IsThere s f → AllByRecursion (IsThere s) (fs ++ f ∷ [])
there_push s [] f all there = (there, tt)
there_push s (g ∷ fs) f all there = (all.0, there_push s fs f all.1 there)

pub there_pop : (s : State) (fs : List Frame) (f : Frame) → AllByRecursion (IsThere s) (fs ++ f ∷ []) → AllByRecursion (IsThere s) fs × IsThere s f
there_pop s [] f all = (tt, all.0)
there_pop s (g ∷ fs) f all = let popped = there_pop s fs f all.1 in ((all.0, popped.0), popped.1)
