-- What the calls that read answer.
use Rattle.std.specs.Prelude.{◌≡◌, ◌⊎◌, ℕ, List, IsTrue, Result, Ok, Err}
use Rattle.jats_fault.specs.Table.{has_number, table}
use Rattle.jats_fault.specs.declared.fault.Fault.{Fault}
use Rattle.module_reader.specs.AskedFor.{FromEntry}
use Rattle.module_reader.specs.declared.faults.ReadFault.{ReadFault}
use Rattle.module_reader.specs.declared.faults.ReadFault.TheVariants as fault
use Rattle.jats_fault.specs.declared.numbers.TheConstants as number

-- a load failed
abbrev pub LoadFailed : {T : Type 0} → Result T ReadFault → Type 0
LoadFailed (Ok x) = ⊥
LoadFailed (Err (fault.Refused refusal)) = ⊥
LoadFailed (Err fault.LoadFailed) = Unit {0}
LoadFailed (Err fault.NoMemory) = ⊥

-- the refusal of a file that is absent
abbrev pub IsAbsence : {T : Type 0} → Result T ReadFault → Type 0
IsAbsence (Ok x) = ⊥
IsAbsence (Err (fault.Refused refusal)) = refusal.number ≡ number.MODULE_ABSENT
IsAbsence (Err fault.LoadFailed) = ⊥
IsAbsence (Err fault.NoMemory) = ⊥

-- the answer is the outcome, unless a load failed or memory ran out
abbrev pub Reads : {T : Type 0} → Result T Fault → Result T ReadFault → Type 0
Reads outcome (Ok x) = outcome ≡ Ok x
Reads outcome (Err (fault.Refused refusal)) = outcome ≡ Err refusal
Reads outcome (Err fault.LoadFailed) = Unit {0}
Reads outcome (Err fault.NoMemory) = Unit {0}

-- the number of a refusal stands in the table
abbrev pub StandsInTable : ReadFault → Type 0
StandsInTable (fault.Refused refusal) = IsTrue (has_number table refusal.number)
StandsInTable fault.LoadFailed = Unit {0}
StandsInTable fault.NoMemory = Unit {0}

abbrev pub IsNumbered : {T : Type 0} → Result T ReadFault → Type 0
IsNumbered (Ok x) = Unit {0}
IsNumbered (Err fault) = StandsInTable fault

-- what a reading of an entry asks the store for: the entry first, and no name twice; where memory ran out it may be nothing
abbrev pub AsksFrom : {T : Type 0} → List (List ℕ) → List (List ℕ) → List ℕ → Result T ReadFault → Type 0
AsksFrom before now entry (Ok x) = FromEntry before now entry
AsksFrom before now entry (Err (fault.Refused refusal)) = FromEntry before now entry
AsksFrom before now entry (Err fault.LoadFailed) = FromEntry before now entry
AsksFrom before now entry (Err fault.NoMemory) = FromEntry before now entry ⊎ (now ≡ before)
