-- Sections at places of a text.
use Rattle.std.proofs.Common.{◌≡◌, ◌∙◌, ℕ, ◌+◌, ◌-◌, ◌<◌, ◌≤◌, List, [], ◌∷◌, length, drop, Some, None, Bool, true, false, cond, option_map, ◌&&◌, refl, ap, sym, arith, nat_eq}
use Rattle.std.specs.Prelude.{Option, Result, Ok, Err, bytes_eq, codes}
use Rattle.std.proofs.lemmas.List.{drop-drop}
use Rattle.jats_fault.specs.declared.fault.Fault.{Fault}
use Rattle.pe_expansion.specs.Ignored.{closes, depth_after, end_from, ignored_end}
use Rattle.module_reader.specs.Frames.{Begins, Begun, IsMoved, Starts, current, end_of, local_of, with_start}
use Rattle.module_reader.specs.Keywords.{keyword_of}
use Rattle.module_reader.specs.Endings.{Refuses}
use Rattle.module_reader.specs.Reading.{Local, section_by, ignored}
use Rattle.module_reader.specs.Stops.{not_ended}
use Rattle.module_reader.specs.declared.refusals.Stop.{Stop}
use Rattle.module_reader.specs.declared.refusals.Stop.TheVariants as fault
use Rattle.module_reader.specs.declared.frames.Start.{Start}
use Rattle.module_reader.specs.declared.frames.Work.{Work}
use Rattle.module_reader.specs.declared.sections.Keyword.{Keyword}
use Rattle.module_reader.specs.declared.sections.Keyword.TheVariants.{Include, Ignore, Other}
use Rattle.module_reader.specs.declared.standing.Standing.{Standing}

end_shifted : (at place depth : ℕ) (text : List ℕ) → end_from (at + place) depth text ≡ option_map (λ e. at + e) (end_from place depth text)
end_shifted at place depth [] = refl
end_shifted at place depth (c ∷ cs) = by (nat_eq depth 0 && closes (c ∷ cs)) (end_shifted at (place + 1) (depth_after depth (c ∷ cs)) cs)
  where
    by : (ends : Bool) → end_from (at + (place + 1)) (depth_after depth (c ∷ cs)) cs ≡ option_map (λ e. at + e) (end_from (place + 1) (depth_after depth (c ∷ cs)) cs)
        → cond ends (Some (at + place + 3)) (end_from (at + place + 1) (depth_after depth (c ∷ cs)) cs) ≡ option_map (λ e. at + e) (cond ends (Some (place + 3)) (end_from (place + 1) (depth_after depth (c ∷ cs)) cs))
    by true later = let e : at + place + 3 ≡ at + (place + 3) = omega arith in ap (λ n. Some n) e
    by false later = let e : at + place + 1 ≡ at + (place + 1) = omega arith in rw e later

-- ignored contents in what is left of a text
pub ignored_later : (text : List ℕ) (at next : ℕ) → at ≤ next → ignored_end text next ≡ option_map (λ e. at + e) (ignored_end (drop at text) (next - at))
ignored_later text at next order =
    let e : at + (next - at) ≡ next = omega arith in
    ap (λ n. end_from n 0 (drop n text)) (sym e) ∙ ap (λ rest. end_from (at + (next - at)) 0 rest) (sym (drop-drop (next - at) at text)) ∙ end_shifted at (next - at) 0 (drop (next - at) (drop at text))

ignore_words : (include ignore : Bool) → Ignore ≡ cond include Include (cond ignore Ignore Other) → (include ≡ false) × (ignore ≡ true)
ignore_words true ignore is = absurd cc
ignore_words false true is = (refl, refl)
ignore_words false false is = absurd cc

ignore_is : (word : List ℕ) → Ignore ≡ keyword_of word → (bytes_eq word (codes "INCLUDE") ≡ false) × (bytes_eq word (codes "IGNORE") ≡ true)
ignore_is word is = ignore_words (bytes_eq word (codes "INCLUDE")) (bytes_eq word (codes "IGNORE")) is

module _ (c : Standing) (text : List ℕ) (at next : ℕ) (word : List ℕ) (order : at ≤ next) (says : Ignore ≡ keyword_of word) where
  by_end : (l : Local) → section_by c at l (drop at text) (next - at) l.state word ≡ ignored c at l l.state (ignored_end (drop at text) (next - at))
  by_end l = let words = ignore_is word says in rw (words.0, words.1) refl

  -- ignored contents that end
  pub starts_ignored : (end : ℕ) → Some end ≡ ignored_end text next → (l : Local) → section_by c at l (drop at text) (next - at) l.state word ≡ Ok (l, end - at)
  starts_ignored end is l = by_end l ∙ by (ignored_end (drop at text) (next - at)) (is ∙ ignored_later text at next order)
    where
      by : (o : Option ℕ) → Some end ≡ option_map (λ e. at + e) o → ignored c at l l.state o ≡ Ok (l, end - at)
      by None e = absurd cc
      by (Some k) e = let m : end ≡ at + k = cc in let n : k ≡ end - at = omega (arith, m) in ap (λ j. Ok (l, j)) n

  -- ignored contents that do not end
  pub starts_unended : (f : Stop) → None ≡ ignored_end text next → Refuses (not_ended c at) f → Starts c text at next word (Err f)
  starts_unended (fault.Refused refusal) is refuses = λ l. by_end l ∙ by l (ignored_end (drop at text) (next - at)) (is ∙ ignored_later text at next order)
    where
      by : (l : Local) (o : Option ℕ) → None ≡ option_map (λ e. at + e) o → ignored c at l l.state o ≡ Err refusal
      by l None e = ap (λ r. Err r) (sym refuses)
      by l (Some k) e = absurd cc
  starts_unended fault.LoadFailed is refuses = absurd refuses
  starts_unended fault.NoMemory is refuses = tt

-- the start of a section at the place of a work
pub starts_fault : (w : Work) (next : ℕ) (word : List ℕ) (f : Stop) → Starts w.frame.standing (current w).text w.frame.at next word (Err f) → Begins {X = Unit {0}} w w next word (Err f)
starts_fault w next word (fault.Refused refusal) starts = starts (local_of (current w) w.state)
starts_fault w next word fault.LoadFailed starts = starts
starts_fault w next word fault.NoMemory starts = tt

pub starts_begun : (old new : Work) (next : ℕ) (word : List ℕ) (start : Start) → old.frame.at < next → next ≤ end_of start next → end_of start next ≤ length (current old).text
    → IsMoved old new → new.frame.at ≡ end_of start next → new.frame.sections.items ≡ with_start start old.frame.sections.items old.frame.at
    → Starts old.frame.standing (current old).text old.frame.at next word (Ok start) → Begun old new next word
starts_begun old new next word start order later within same at sections starts = record {
  same = same;
  later = omega (arith, at, order, later);
  within = rw at within;
  goes = starts (local_of (current old) old.state) ∙ rw (at, sections) refl;
}
