-- What a run leaves.
use Rattle.std.specs.Prelude.{◌≡◌, ℕ, ◌≤◌, List, ◌++◌, Option, Some, None, Result, Ok, Err, Bool, IsTrue, IsSome, ◌⊎◌, codes, nat_eq}
use Rattle.std.specs.List.{starts_with}
use Rattle.jats_io.specs.Writes.{Appends, Appended}
use Rattle.module_reader.specs.Sources.{Files}
use Rattle.module_reader.specs.declared.faults.ReadFault.{ReadFault}
use Rattle.module_reader.specs.declared.faults.ReadFault.TheVariants as fault
use Rattle.tagset_tool.specs.declared.answer.Answer.{Answer}
use Rattle.tagset_tool.specs.declared.answer.Stop.{Stop}
use Rattle.tagset_tool.specs.declared.answer.Stop.TheVariants as stop
use Rattle.jats_fault.specs.Lines.{line_of}
use Rattle.jats_fault.specs.Table.{table, has_number}
use Rattle.jats_fault.specs.declared.fault.Fault.{Fault}
use Rattle.tagset_tool.specs.Outcomes.{refusing}
use Rattle.tagset_tool.specs.Output.{IsOutput, usage_line}
use Rattle.tagset_tool.specs.Words.{asked}

abbrev pub IsLoadFailed : {T : Type 0} → Result T Stop → Type 0
IsLoadFailed result = result ≡ Err stop.LoadFailed

-- the bytes begin the line of an absent module
abbrev pub is_absence : List ℕ → Bool
is_absence bytes = starts_with nat_eq bytes (codes "refused E10 ")

-- the answer is the line of an absent module
abbrev pub AnswersAbsence : Result Answer Stop → Type 0
AnswersAbsence (Ok answer) = IsTrue (is_absence answer.bytes.items)
AnswersAbsence (Err s) = ⊥

-- the line of an absent module, or a front of it that shows the number, was written
abbrev pub WritesAbsence : Option (List ℕ) → Option (List ℕ) → Type 0
WritesAbsence None now = ⊥
WritesAbsence (Some before) now = (bytes : List ℕ) × (now ≡ Some (before ++ bytes)) × IsTrue (is_absence bytes)

-- the answer to a fault of reading
abbrev pub StopsAs : ReadFault → Result Answer Stop → Type 0
StopsAs (fault.Refused refusal) (Ok answer) = refusing refusal answer.status answer.bytes.items
StopsAs (fault.Refused refusal) (Err stop.LoadFailed) = ⊥
StopsAs (fault.Refused refusal) (Err stop.NoMemory) = Unit {0}
StopsAs fault.LoadFailed result = result ≡ Err stop.LoadFailed
StopsAs fault.NoMemory result = result ≡ Err stop.NoMemory

-- the output was written whole, with its status
pub record Whole (words : List (List ℕ)) (files : Files) (before now : Option (List ℕ)) (status : ℕ) : Type 0 where
  pub bytes : List ℕ
  pub output : IsOutput words files status bytes
  pub appended : Appends before now bytes

-- a write failed, and a front of the output was written
pub record Cut (words : List (List ℕ)) (files : Files) (before now : Option (List ℕ)) : Type 0 where
  pub status : ℕ
  pub bytes : List ℕ
  pub output : IsOutput words files status bytes
  pub count : ℕ
  pub appended : Appended count before now bytes

-- the output is that of the definition
pub record Runs (words : List (List ℕ)) (files : Files) (before now : Option (List ℕ)) (status : ℕ) : Type 0 where
  pub whole : status ≤ 3 → Whole words files before now status
  pub cut : status ≡ 5 → Cut words files before now

-- words of a form, where no count rose, have an answer, unless memory runs out
abbrev pub IsAnswered : List (List ℕ) → Type 0 → Type 0 → ℕ → Type 0
IsAnswered words load write status = IsSome (asked words) → (load → ⊥) → (write → ⊥) → (status ≤ 2) ⊎ (status ≡ 6)

-- the line of a refusal of the table
abbrev pub IsRefusal : List ℕ → Type 0
IsRefusal bytes = (refusal : Fault) × IsTrue (has_number table refusal.number) × (bytes ≡ line_of refusal)

-- what a status says of the bytes, whatever the store tells
pub record Says (status : ℕ) (bytes : List ℕ) : Type 0 where
  pub refusal : status ≡ 2 → IsRefusal bytes
  pub usage : status ≡ 3 → bytes ≡ usage_line

-- bytes were appended that are as the status says, whatever the store tells
pub record Leaves (before now : Option (List ℕ)) (status : ℕ) : Type 0 where
  pub bytes : List ℕ
  pub appended : Appends before now bytes
  pub says : Says status bytes
