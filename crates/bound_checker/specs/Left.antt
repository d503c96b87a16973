-- What is left of a text of lines, and what is read from it.
use Rattle.std.specs.Prelude.{◌≡◌, ◌+◌, ℕ, Bool, true, List, [], ◌∷◌, codes, Option, Some, None, Result, Ok, Err}
use Rattle.content_models.specs.Model.{Chars}
use Rattle.decl_set.specs.Declarations.{Declarations, Element}
use Rattle.bound_checker.specs.declared.cursor.Cursor.{Cursor}
use Rattle.bound_checker.specs.declared.fault.CertFault.{CertFault}
use Rattle.bound_checker.specs.declared.fault.CertFault.TheVariants.{Malformed, NoMemory}
use Rattle.bound_checker.specs.declared.tables.Row.{Row}
use Rattle.bound_checker.specs.Certificates.{Rest, after, read_row}
use Rattle.bound_checker.specs.Lines.{lines_of}

-- the number of the next line, and the lines from it on
abbrev pub rest_of : Cursor → Rest
rest_of at = (at.line, lines_of at.rest.now)

-- what is read, with the lines that are left, or the number of the line that is not as needed; want of memory says nothing
abbrev pub Gives : {A : Type 0} → Result (A × Rest) ℕ → Rest → Result A CertFault → Type 0
Gives read left (Ok a) = read ≡ Ok (a, left)
Gives read left (Err (Malformed k)) = read ≡ Err k
Gives read left (Err NoMemory) = Unit {0}

-- the same of the last line
abbrev pub Ends : Result (Bool × Rest) ℕ → Rest → Result (Unit {0}) CertFault → Type 0
Ends read left (Ok u) = read ≡ Ok (true, left)
Ends read left (Err (Malformed k)) = read ≡ Err k
Ends read left (Err NoMemory) = Unit {0}

abbrev pub IsNoPair : List Chars → Type 0
IsNoPair [] = Unit {0}
IsNoPair (x ∷ xs) = after (codes "pair ") x ≡ None

-- whether the next line begins with `pair `, with what stands behind it, and the lines behind that one
abbrev pub BeginsPair : Rest → Option (List ℕ × Rest) → Type 0
BeginsPair at None = IsNoPair at.1
BeginsPair at (Some t) = (x : Chars) × (at.1 ≡ x ∷ t.1.1) × (t.1.0 ≡ at.0 + 1) × (after (codes "pair ") x ≡ Some t.0)

-- the lines of the element of a place, where there is one
abbrev pub read_row_at : ℕ → Declarations → Option Element → ℕ → List Chars → Result (Row × Rest) ℕ
read_row_at cap second None k xs = Err k
read_row_at cap second (Some e) k xs = read_row cap second e.0 e.1 k xs
