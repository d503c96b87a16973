-- Steps of a work.
use Rattle.std.proofs.Common.{◌≡◌, ◌∙◌, ℕ, suc, ◌+◌, ◌-◌, ◌*◌, ◌<◌, ◌≤◌, List, [], ◌∷◌, ◌++◌, length, take, Ok, Err, Some, None, refl, sym, ap, arith, slice_get, length-append}
use Rattle.std.specs.Prelude.{Result, Option}
use Rattle.std.specs.List.{AllByRecursion}
use Rattle.std.proofs.lemmas.List.{length-take-le}
use Rattle.dtd_scanner.specs.Walk.{◌>>=◌}
use Rattle.jats_fault.specs.declared.fault.Fault.{Fault}
use Rattle.module_reader.specs.Frames.{Passage, local_of, left, resumed, all_unread, unread, IsThere, passage_of, passages_of, Stepped, Turns, left_of}
use Rattle.module_reader.specs.Endings.{Refuses}
use Rattle.module_reader.specs.Reading.{Local, Names, ended}
use Rattle.module_reader.specs.Sources.{Source}
use Rattle.module_reader.specs.Stops.{not_ended}
use Rattle.module_reader.specs.declared.refusals.Stop.{Stop}
use Rattle.module_reader.specs.declared.refusals.Stop.TheVariants as fault
use Rattle.module_reader.specs.declared.frames.Frame.{Frame}
use Rattle.module_reader.specs.declared.frames.Work.{Work}
use Rattle.module_reader.specs.declared.standing.Standing.{Standing}
use Rattle.module_reader.specs.declared.state.State.{State}
use Rattle.module_reader.proofs.OpenNames.{passages_push, passages_taken}
use Rattle.module_reader.proofs.Waiting.{resumed_last, all_unread_push, left_end}

closed_end : (c : Standing) (s : State) (sections : List ℕ) → length sections ≡ 0 → ended c (record { state = s; sections = sections }) ≡ Ok s
closed_end c s [] none = refl
closed_end c s (x ∷ xs) none = absurd (omega arith)

module _ (source : Source) (s : State) (names : Names) (f : Frame) (frames : List Frame) (over : length (passage_of s names f).text ≤ f.at) where
  -- a text ends, and the last that waits goes on
  pub pop_left : (fs : List Frame) (g : Frame) → frames ≡ fs ++ g ∷ [] → length f.sections.items ≡ 0
      → left source (passages_of s (take (length fs) names) fs) (passage_of s (take (length fs) names) g) s ≡ left source (passages_of s names frames) (passage_of s names f) s
  pop_left fs g is none =
      let p = passage_of s names f in
      let q = passage_of s (take (length fs) names) g in
      ap (λ ps. left source ps q s) (passages_taken s names fs)
      ∙ sym (left_end source (passages_of s names frames) p s over ∙ rw (closed_end p.standing s p.sections none, is, passages_push s names fs g) (resumed_last source (passages_of s names fs) q s))

  -- the entry's text ends
  pub done_left : length frames ≡ 0 → length f.sections.items ≡ 0 → left source (passages_of s names frames) (passage_of s names f) s ≡ Ok s
  done_left bare none = let p = passage_of s names f in left_end source (passages_of s names frames) p s over ∙ rw (closed_end p.standing s p.sections none) (by frames bare)
    where
      by : (fs : List Frame) → length fs ≡ 0 → resumed source (passages_of s names fs) s ≡ Ok s
      by [] none = refl
      by (g ∷ fs) none = absurd (omega arith)

  -- a section is still open at the end
  pub open_left : (start : ℕ) → slice_get f.sections.items (length f.sections.items - 1) ≡ Some start → left source (passages_of s names frames) (passage_of s names f) s ≡ Err (not_ended f.standing start)
  open_left start is = let p = passage_of s names f in left_end source (passages_of s names frames) p s over ∙ rw is refl

pub pop_size : (s : State) (names : Names) (f g : Frame) (fs frames : List Frame) → length (passage_of s names f).text ≤ f.at → frames ≡ fs ++ g ∷ []
    → 2 * ((67108864 - s.spent) + (unread (passage_of s (take (length fs) names) g) + all_unread (passages_of s (take (length fs) names) fs))) + length fs
    < 2 * ((67108864 - s.spent) + (unread (passage_of s names f) + all_unread (passages_of s names frames))) + length frames
pop_size s names f g fs frames over is = rw (is, passages_taken s names fs, passages_push s names fs g, all_unread_push, length-append) (omega arith)

-- as many names stay open as texts wait
pub pop_names : (names : Names) (g : Frame) (fs frames : List Frame) → length names ≡ length frames → frames ≡ fs ++ g ∷ [] → length (take (length fs) names) ≡ length fs
pop_names names g fs frames same is =
    let more : length frames ≡ length fs + 1 = ap (λ (ws : List Frame). length ws) is ∙ length-append fs (g ∷ []) in
    length-take-le (length fs) names (omega (arith, same, more))

-- a refusal is what is left
pub refuses_left : (X : Type 0) (source : Source) (old new : Work) (f : Stop) (said : Fault) → Refuses said f → left_of source old ≡ Err said → Stepped {X = X} source old new (Err f)
refuses_left X source old new (fault.Refused refusal) said refuses is = is ∙ ap (λ r. Err r) (sym refuses)
refuses_left X source old new fault.LoadFailed said refuses is = tt
refuses_left X source old new fault.NoMemory said refuses is = tt

pub refuses_turn : (source : Source) (old new : Work) (f : Stop) (said : Fault) → Refuses said f → left_of source old ≡ Err said → Turns source old new (Err f)
refuses_turn source old new (fault.Refused refusal) said refuses is = is ∙ ap (λ r. Err r) (sym refuses)
refuses_turn source old new fault.LoadFailed said refuses is = tt
refuses_turn source old new fault.NoMemory said refuses is = tt
