-- Texts that are read as tables.
use Rattle.std.specs.Prelude.{◌≡◌, ◌≤◌, ◌+◌, ℕ, List, length, Result, Ok, Err}
use Rattle.content_models.specs.Model.{Chars}
use Rattle.decl_set.specs.Declarations.{Declarations}
use Rattle.bound_checker.specs.declared.fault.CertFault.{CertFault}
use Rattle.bound_checker.specs.declared.fault.CertFault.TheVariants.{Malformed, NoMemory}
use Rattle.bound_checker.specs.declared.tables.Tables.{Tables}
use Rattle.bound_checker.specs.Certificates.{read_lines}
use Rattle.bound_checker.specs.Lines.{lines_of}

-- the answer is what is said, with the number of the line that is not as needed, or want of memory
abbrev pub Answers : {A : Type 0} → Result A ℕ → Result A CertFault → Type 0
Answers said (Ok a) = said ≡ Ok a
Answers said (Err (Malformed k)) = said ≡ Err k
Answers said (Err NoMemory) = Unit {0}

-- the tables of the certificate in the lines of a text, or the number of the line that is not as needed
abbrev pub ReadsCert : Declarations → Declarations → List ℕ → Result Tables CertFault → Type 0
ReadsCert first second text result = Answers (read_lines first second (lines_of text)) result

-- the line that is not as needed is one of the lines, or missing behind the last
abbrev pub FaultIsLine : Type 0
FaultIsLine = (first second : Declarations) (lines : List Chars) (k : ℕ) → read_lines first second lines ≡ Err k → (1 ≤ k) × (k ≤ length lines + 1)
