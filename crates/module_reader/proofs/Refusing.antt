-- Refusals as answers.
use Rattle.std.proofs.Common.{◌≡◌, ◌∙◌, ℕ, List, [], ◌∷◌, Result, Ok, Err, refl, sym, ap, arith}
use Rattle.std.specs.Prelude.{◌≢◌}
use Rattle.jats_chars.specs.Decoded.{Answers}
use Rattle.jats_chars.specs.declared.decoding.DecodeFault.{DecodeFault}
use Rattle.jats_chars.specs.declared.decoding.DecodeFault.TheVariants as decoding
use Rattle.jats_fault.specs.declared.fault.Fault.{Fault}
use Rattle.module_reader.specs.Endings.{LoadFailed, IsAbsence, Reads, Refuses}
use Rattle.module_reader.specs.Sources.{decoded_by}
use Rattle.module_reader.specs.Stops.{decode_stop}
use Rattle.module_reader.specs.declared.refusals.Stop.{Stop}
use Rattle.module_reader.specs.declared.refusals.Stop.TheVariants as fault

-- a refusal that is said is an answer
pub reads_refused : {T : Type 0} (outcome : Result T Fault) (said : Fault) (f : Stop) → outcome ≡ Err said → Refuses said f → Reads outcome (Err f)
reads_refused outcome said (fault.Refused refusal) is refuses = rw refuses is
reads_refused outcome said fault.LoadFailed is refuses = tt
reads_refused outcome said fault.NoMemory is refuses = tt

-- bytes that are no text
pub decode_stops : (name : List ℕ) (said : Result (List ℕ) DecodeFault) (e : DecodeFault) (f : Stop) → Answers said (Err e) → Refuses (decode_stop name e) f → (e ≡ decoding.NoMemory → f ≡ fault.NoMemory)
    → Reads (decoded_by {X = List ℕ} name (λ t. Ok t) said) (Err f)
decode_stops name said decoding.NoMemory f is refuses memory = rw (memory refl) tt
decode_stops name said (decoding.NotUtf8 byte) f is refuses memory = reads_refused _ _ f (rw is refl) refuses
decode_stops name said (decoding.NotChar byte) f is refuses memory = reads_refused _ _ f (rw is refl) refuses
decode_stops name said decoding.BadTextDecl f is refuses memory = reads_refused _ _ f (rw is refl) refuses
decode_stops name said decoding.EncodingOther f is refuses memory = reads_refused _ _ f (rw is refl) refuses
