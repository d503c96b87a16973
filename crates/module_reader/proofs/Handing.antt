-- What a reading stops for is what is handed out.
use Rattle.std.proofs.Common.{◌≡◌, ℕ, Option, Some, None, IfSome, Result, Ok, Err, sym, subst}
use Rattle.jats_io.specs.Causes.{HasCause}
use Rattle.jats_fault.specs.declared.fault.Fault.{Fault}
use Rattle.module_reader.specs.Endings as inner
use Rattle.module_reader.specs.Endings.{as_read}
use Rattle.module_reader.specs.Outcomes as outer
use Rattle.module_reader.specs.declared.faults.ReadFault.{ReadFault}
use Rattle.module_reader.specs.declared.refusals.Stop.{Stop}
use Rattle.module_reader.specs.declared.refusals.Stop.TheVariants as stop
use Rattle.module_reader.proofs.Told.{cause_of, told}

module _ (T : Type 0) where
  load-same : (s : Stop) → outer.LoadFailed {T = T} (Err (as_read s)) → inner.LoadFailed {T = T} (Err s)
  load-same (stop.Refused refusal) h = h
  load-same stop.LoadFailed h = h
  load-same stop.NoMemory h = h

  absence-same : (s : Stop) → outer.IsAbsence {T = T} (Err (as_read s)) → inner.IsAbsence {T = T} (Err s)
  absence-same (stop.Refused refusal) h = h
  absence-same stop.LoadFailed h = h
  absence-same stop.NoMemory h = h

  reads-same : (said : Result T Fault) (s : Stop) → inner.Reads {T = T} said (Err s) → outer.Reads {T = T} said (Err (as_read s))
  reads-same said (stop.Refused refusal) h = h
  reads-same said stop.LoadFailed h = h
  reads-same said stop.NoMemory h = h

  pub handed_load : (before now : ℕ) (s : Stop) (f : ReadFault) → f ≡ as_read s → HasCause before now (inner.LoadFailed {T = T} (Err s)) → HasCause before now (outer.LoadFailed {T = T} (Err f))
  handed_load before now s f is cause = cause_of before now _ _ cause (λ h. load-same s (let P : ReadFault → Type 0 = λ f. outer.LoadFailed {T = T} (Err f) in subst P is h))

  pub handed_absence : (before now : ℕ) (s : Stop) (f : ReadFault) → f ≡ as_read s → HasCause before now (inner.IsAbsence {T = T} (Err s)) → HasCause before now (outer.IsAbsence {T = T} (Err f))
  handed_absence before now s f is cause = cause_of before now _ _ cause (λ h. absence-same s (let P : ReadFault → Type 0 = λ f. outer.IsAbsence {T = T} (Err f) in subst P is h))

  pub handed_told : {A : Type 0} (holds : Option A) (said : A → Result T Fault) (s : Stop) (f : ReadFault) → f ≡ as_read s → IfSome holds (λ a. inner.Reads {T = T} (said a) (Err s))
      → IfSome holds (λ a. outer.Reads {T = T} (said a) (Err f))
  handed_told holds said s f is reads =
      told holds (λ a. inner.Reads {T = T} (said a) (Err s)) (λ a. outer.Reads {T = T} (said a) (Err f))
      (λ a r. let P : ReadFault → Type 0 = λ f. outer.Reads {T = T} (said a) (Err f) in subst P (sym is) (reads-same (said a) s r)) reads
