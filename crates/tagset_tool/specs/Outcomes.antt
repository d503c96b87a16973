-- Outcomes: which status and which bytes may be answered.
use Rattle.std.specs.Prelude.{◌≡◌, ℕ, Bool, true, false, List, length, Result, Ok, Err, nat_lt}
use Rattle.jats_chars.specs.declared.limits.TheConstants as limit
use Rattle.jats_fault.specs.Lines.{line_of}
use Rattle.jats_fault.specs.declared.fault.Fault.{Fault}
use Rattle.tagset_tool.specs.Refusals.{output_over}

-- a status and bytes that may be answered
abbrev pub Outcome : Type 1
Outcome = ℕ → List ℕ → Type 0

-- these bytes, with this status
abbrev pub answering : ℕ → List ℕ → Outcome
answering wanted text status bytes = (status ≡ wanted) × (bytes ≡ text)

-- the refusal's line, with status 2
abbrev pub refusing : Fault → Outcome
refusing refusal = answering 2 (line_of refusal)

-- the refusal, or what comes of what was read
abbrev pub after : {X : Type 0} → Result X Fault → (X → Outcome) → Outcome
after (Err refusal) next status bytes = refusing refusal status bytes
after (Ok x) next status bytes = next x status bytes

-- how many bytes an output has at most
abbrev pub most_written : ℕ
most_written = limit.OUTPUT_BYTES

abbrev pub fitting_by : Bool → ℕ → List ℕ → Outcome
fitting_by true wanted text status bytes = refusing output_over status bytes
fitting_by false wanted text status bytes = answering wanted text status bytes

-- the text with this status, or the refusal of one that is too long
abbrev pub fitting : ℕ → List ℕ → Outcome
fitting wanted text = fitting_by (nat_lt most_written (length text)) wanted text

-- one status and one text at most may be answered
abbrev pub IsUnique : Outcome → Type 0
IsUnique outcome = (status other : ℕ) (bytes more : List ℕ) → outcome status bytes → outcome other more → (status ≡ other) × (bytes ≡ more)
