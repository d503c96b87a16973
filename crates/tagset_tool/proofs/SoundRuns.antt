-- Runs over a sound store and a sound sink.
use Rattle.std.proofs.Common.{◌≡◌, ◌∙◌, ℕ, zero, suc, ◌+◌, ◌<◌, ◌≤◌, ◌⊎◌, List, ◌++◌, Some, take, length, refl, sym, ap, inl, inr, arith, length-append}
use Rattle.std.proofs.lemmas.Grind.{common_steps}
use Rattle.jats_io.specs.Causes.{HasCause}
use Rattle.jats_io.specs.Written.{SoundBytes}
use Rattle.module_reader.specs.Sources.{Files}
use Rattle.tagset_tool.specs.Output.{IsOutput}
use Rattle.tagset_tool.specs.Runs.{Runs}
use Rattle.tagset_tool.specs.Sound.{IsDone}
use Rattle.tagset_tool.proofs.OneOutput.{one_output}

data Status (n : ℕ) : Type 0 where
  answered : n ≤ 3 → Status n
  unloaded : n ≡ 4 → Status n
  unwritten : n ≡ 5 → Status n
  no_memory : n ≡ 6 → Status n

status_of : (n : ℕ) → n ≤ 6 → Status n
status_of zero h = answered (omega arith)
status_of (suc zero) h = answered (omega arith)
status_of (suc (suc zero)) h = answered (omega arith)
status_of (suc (suc (suc zero))) h = answered (omega arith)
status_of (suc (suc (suc (suc zero)))) h = unloaded refl
status_of (suc (suc (suc (suc (suc zero))))) h = unwritten refl
status_of (suc (suc (suc (suc (suc (suc zero)))))) h = no_memory refl
status_of (suc (suc (suc (suc (suc (suc (suc n))))))) h = absurd (omega arith)

some_same : (a b : List ℕ) → Some a ≡ Some b → a ≡ b
some_same a b e = cc

-- what is known after the run
pub record Known (words : List (List ℕ)) (files : Files) (before now : SoundBytes) (result : ℕ) : Type 0 where
  pub most : result ≤ 6
  pub made : now.made ≡ before.made
  pub sound_before : length before.bytes < before.made → before.faults ≡ 0
  pub sound_now : length now.bytes < now.made → now.faults ≡ 0
  pub loads : HasCause 0 0 (result ≡ 4)
  pub writes : HasCause before.faults now.faults (result ≡ 5)
  pub told : Runs words files (Some before.bytes) (Some now.bytes) result
  pub nothing : (result ≡ 4) ⊎ (result ≡ 6) → Some now.bytes ≡ Some before.bytes

module _ (words : List (List ℕ)) (files : Files) (before now : SoundBytes) (result : ℕ) (k : Known words files before now result) (status : ℕ) (bytes : List ℕ) (output : IsOutput words files status bytes)
    (room : length before.bytes + length bytes < before.made) where
  still : length now.bytes ≤ length before.bytes + length bytes → now.faults ≡ before.faults
  still short =
      let was : before.faults ≡ 0 = k.sound_before (omega arith) in
      let e = k.made in
      let is : now.faults ≡ 0 = k.sound_now (omega arith) in
      is ∙ sym was

  done : Status result → IsDone status bytes before now result × (now.faults ≡ before.faults)
  done (answered few) =
      let w = k.told.whole few in
      let same = one_output words files status result bytes w.bytes output w.output in
      let is : now.bytes ≡ before.bytes ++ w.bytes = some_same now.bytes (before.bytes ++ w.bytes) w.appended in
      let all : now.bytes ≡ before.bytes ++ bytes = is ∙ ap (λ b. before.bytes ++ b) (sym same.1) in
      (inl (sym same.0, all), still (omega (arith, simp length-append at (ap length all))))
  done (unloaded is) = absurd (elim (k.loads.risen is) [ inl more ↦ omega arith | inr last ↦ omega arith ])
  done (unwritten is) = absurd (
      let w = k.told.cut is in
      let same = one_output words files status w.status bytes w.bytes output w.output in
      let cut : now.bytes ≡ before.bytes ++ take w.count w.bytes = some_same now.bytes (before.bytes ++ take w.count w.bytes) w.appended in
      let short : length now.bytes ≤ length before.bytes + length bytes = rw (cut, same.1) (grind (arith, common_steps)) in
      let was : before.faults ≡ 0 = k.sound_before (omega arith) in
      let kept = still short in
      elim (k.writes.risen is) [ inl more ↦ omega (arith, was, kept, more) | inr last ↦ omega (arith, was, kept, last) ]
      )
  done (no_memory is) =
      let none : now.bytes ≡ before.bytes = some_same now.bytes before.bytes (k.nothing (inr is)) in
      (inr (is, none), still (omega (arith, ap length none)))

  pub sound_done : IsDone status bytes before now result × (now.faults ≡ before.faults)
  sound_done = done (status_of result k.most)
