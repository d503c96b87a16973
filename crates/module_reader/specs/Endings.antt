-- What the calls within a reading answer.
use Rattle.std.specs.Prelude.{◌≡◌, Result, Ok, Err}
use Rattle.jats_fault.specs.declared.fault.Fault.{Fault}
use Rattle.module_reader.specs.declared.faults.ReadFault.{ReadFault}
use Rattle.module_reader.specs.declared.faults.ReadFault.TheVariants as handed
use Rattle.module_reader.specs.declared.refusals.Stop.{Stop}
use Rattle.module_reader.specs.declared.refusals.Stop.TheVariants as fault
use Rattle.jats_fault.specs.declared.numbers.TheConstants as number

-- a load failed
abbrev pub LoadFailed : {T : Type 0} → Result T Stop → Type 0
LoadFailed (Ok x) = ⊥
LoadFailed (Err (fault.Refused refusal)) = ⊥
LoadFailed (Err fault.LoadFailed) = Unit {0}
LoadFailed (Err fault.NoMemory) = ⊥

-- the refusal of a file that is absent
abbrev pub IsAbsence : {T : Type 0} → Result T Stop → Type 0
IsAbsence (Ok x) = ⊥
IsAbsence (Err (fault.Refused refusal)) = refusal.number ≡ number.MODULE_ABSENT
IsAbsence (Err fault.LoadFailed) = ⊥
IsAbsence (Err fault.NoMemory) = ⊥

-- this refusal, or want of memory
abbrev pub Refuses : Fault → Stop → Type 0
Refuses said (fault.Refused refusal) = refusal ≡ said
Refuses said fault.LoadFailed = ⊥
Refuses said fault.NoMemory = Unit {0}

-- the answer is the outcome, unless a load failed or memory ran out
abbrev pub Reads : {T : Type 0} → Result T Fault → Result T Stop → Type 0
Reads outcome (Ok x) = outcome ≡ Ok x
Reads outcome (Err (fault.Refused refusal)) = outcome ≡ Err refusal
Reads outcome (Err fault.LoadFailed) = Unit {0}
Reads outcome (Err fault.NoMemory) = Unit {0}

-- the same, as it is handed out
abbrev pub as_read : Stop → ReadFault
as_read (fault.Refused refusal) = handed.Refused refusal
as_read fault.LoadFailed = handed.LoadFailed
as_read fault.NoMemory = handed.NoMemory
