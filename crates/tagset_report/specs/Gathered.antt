-- What is found of each element, and what is gathered of it.
use Rattle.std.specs.Prelude.{◌≡◌, ℕ, Bool, true, false, List, [], ◌∷◌, MatchOption, Option, Some, None, Result, Ok, Err}
use Rattle.content_models.specs.Model.{Chars}
use Rattle.decl_set.specs.Declarations.{Declarations, Element}
use Rattle.decl_set.specs.declared.breaks.BrokenDecl.{BrokenDecl}
use Rattle.decl_set.specs.declared.breaks.Cause.{Cause}
use Rattle.model_inclusion.specs.declared.fault.PairFault.TheVariants as pair
use Rattle.tree_costs.specs.declared.cost.Cost.{Cost}
use Rattle.tree_costs.specs.declared.least.LeastRow.{LeastRow}
use Rattle.tagset_report.specs.declared.causes.Judged.{Judged}
use Rattle.tagset_report.specs.declared.fault.ReportFault.{ReportFault}
use Rattle.tagset_report.specs.declared.fault.ReportFault.TheVariants.{RootUndeclared, PairsOver, NoMemory}
use Rattle.tagset_report.specs.Judged.{Judges}

-- what is found of an element of the first, where so many pairs are left
abbrev pub Finds : Declarations → Declarations → ℕ → Result Judged ReportFault → Element → Type 0
Finds first second left (Ok j) x = Judges first second x.0 x.1 left (Ok j)
Finds first second left (Err RootUndeclared) x = ⊥
Finds first second left (Err (PairsOver name)) x = (name ≡ x.0) × Judges first second x.0 x.1 left (Err pair.PairsOver)
Finds first second left (Err NoMemory) x = Unit {0}

-- the same of the element at a place, where there is one
abbrev pub FindsAt : Declarations → Declarations → Option Element → ℕ → Result Judged ReportFault → Type 0
FindsAt first second o left result = MatchOption o (Unit {0}) (Finds first second left result)

-- the least sums of the states of an element with this row
abbrev pub sums_of : Option LeastRow → List Cost
sums_of None = []
sums_of (Some row) = row.p

-- what is listed of an element: where it is useful and a cause breaks it, it with the cause
abbrev pub broken_by : Chars → Option Cause → Bool → List BrokenDecl
broken_by name None useful = []
broken_by name (Some k) false = []
broken_by name (Some k) true = record { element = name; cause = k } ∷ []

-- the same of the element at a place
abbrev pub broken_at : Option Element → Option Cause → Bool → List BrokenDecl
broken_at None cause useful = []
broken_at (Some x) cause useful = broken_by x.0 cause useful

-- 1 where the flag is set
abbrev pub one_if : Bool → ℕ
one_if true = 1
one_if false = 0
