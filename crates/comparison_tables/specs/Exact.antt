-- What exact tables are: one, accepted, and printable.
use Rattle.std.specs.Prelude.{◌≡◌, ℕ, None}
use Rattle.std.specs.List.{AllByRecursion}
use Rattle.content_models.specs.Model.{Chars}
use Rattle.decl_set.specs.Asked.{IsKept}
use Rattle.decl_set.specs.Declarations.{Declarations}
use Rattle.bound_checker.specs.declared.tables.Tables.{Tables}
use Rattle.bound_checker.specs.Certificates.{AreShort}
use Rattle.bound_checker.specs.Tests.{first_broken}
use Rattle.comparison_tables.specs.Outcome.{AreExactTables}

-- two sets have one table for a root and a cap
abbrev pub OneTables : Type 0
OneTables =
    (first second : Declarations) (root : Chars) (cap : ℕ) (t u : Tables) → IsKept first
    → AreExactTables first second root cap t → AreExactTables first second root cap u → t ≡ u

-- exact tables are accepted: no inequality fails
abbrev pub TablesAreAccepted : Type 0
TablesAreAccepted =
    (first second : Declarations) (root : Chars) (cap : ℕ) (t : Tables) → IsKept first → IsKept second
    → AreExactTables first second root cap t → first_broken first second t ≡ None

-- they can be printed: the states of pairs are of 32 bits
abbrev pub TablesAreShort : Type 0
TablesAreShort =
    (first second : Declarations) (root : Chars) (cap : ℕ) (t : Tables) → IsKept first → IsKept second
    → AreExactTables first second root cap t → AllByRecursion AreShort t.rows
