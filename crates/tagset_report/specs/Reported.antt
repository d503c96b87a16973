-- What is reported of two sets.
use Rattle.std.specs.Prelude.{◌≡◌, ◌≤◌, ◌<◌, ◌+◌, ℕ, List, [], ◌∷◌, ◌++◌, length, Option, Some, None, is_some, IsTrue, ◌⊎◌, ◌↔◌, Result, Ok, Err}
use Rattle.content_models.specs.declared.content.Content.{Content}
use Rattle.content_models.specs.Model.{Chars}
use Rattle.decl_set.specs.Declarations.{Declarations, Element, content_in}
use Rattle.decl_set.specs.Validity.{IsSubset, IsUseful}
use Rattle.decl_set.specs.Asked as set
use Rattle.decl_set.specs.Breaks.{Breaks, IsKept}
use Rattle.decl_set.specs.declared.breaks.Cause.{Cause}
use Rattle.decl_set.specs.declared.breaks.BrokenDecl.{BrokenDecl}
use Rattle.tagset_report.specs.declared.fault.ReportFault.{ReportFault}
use Rattle.tagset_report.specs.declared.fault.ReportFault.TheVariants.{RootUndeclared, PairsOver, NoMemory}
use Rattle.tagset_report.specs.declared.outcome.Report.{Report}
use Rattle.tagset_report.specs.Live.{AreListed}

-- the useful ones of these elements that break, in order, each with its first cause
abbrev pub ListsBroken : Declarations → Declarations → Chars → List Element → List BrokenDecl → Type 0
ListsBroken first second root [] broken = broken ≡ []
ListsBroken first second root (e ∷ es) broken =
    (IsKept first second root e × ListsBroken first second root es broken)
    ⊎ ((cause : Cause) × (rest : List BrokenDecl) × IsUseful first root e.0 × Breaks first second e.0 cause
    × (broken ≡ record { element = e.0; cause = cause } ∷ rest) × ListsBroken first second root es rest)

-- how many of these elements are useful
abbrev pub CountsUseful : Declarations → Chars → List Element → ℕ → Type 0
CountsUseful first root [] n = n ≡ 0
CountsUseful first root (e ∷ es) n =
    (IsUseful first root e.0 × ((m : ℕ) × (n ≡ 1 + m) × CountsUseful first root es m)) ⊎ ((IsUseful first root e.0 → ⊥) × CountsUseful first root es n)

-- the number of listed pairs of an element, where both sets declare it
abbrev pub CountsPairs : Declarations → Content → Option Content → ℕ → Type 0
CountsPairs first a None n = n ≡ 0
CountsPairs first a (Some b) n = (pairs : List (ℕ × ℕ)) × AreListed first a b pairs × (n ≡ length pairs)

-- those of these elements together
abbrev pub SumsPairs : Declarations → Declarations → List Element → ℕ → Type 0
SumsPairs first second [] n = n ≡ 0
SumsPairs first second (e ∷ es) n =
    (k : ℕ) × (m : ℕ) × CountsPairs first e.1 (content_in second e.0) k × SumsPairs first second es m × (n ≡ k + m)

-- in order of declaration the sum passes 2,000,000 at this element
pub record PassesAt (first second : Declarations) (name : Chars) : Type 0 where
  pub before : List Element
  pub declared : Content
  pub after : List Element
  pub place : first.elements ≡ before ++ (name, declared) ∷ after
  pub sum : ℕ
  pub sums : SumsPairs first second before sum
  pub within : sum ≤ 2000000
  pub more : ℕ
  pub counts : CountsPairs first declared (content_in second name) more
  pub over : 2000000 < sum + more

pub record IsReported (first second : Declarations) (root : Chars) (report : Report) : Type 0 where
  pub declared : IsTrue (is_some (content_in first root))
  pub useful : CountsUseful first root first.elements report.useful
  pub differs : ListsBroken first second root first.elements report.differs
  pub sum : ℕ
  pub sums : SumsPairs first second first.elements sum
  pub within : sum ≤ 2000000

-- what comes of a report
abbrev pub Reports : Declarations → Declarations → Chars → Result Report ReportFault → Type 0
Reports first second root (Ok report) = IsReported first second root report
Reports first second root (Err RootUndeclared) = content_in first root ≡ None
Reports first second root (Err (PairsOver name)) = IsTrue (is_some (content_in first root)) × PassesAt first second name
Reports first second root (Err NoMemory) = Unit {0}

-- ---- what it says

-- nothing is listed exactly where every document of the first is one of the second
abbrev pub NoneListed : Type 0
NoneListed =
    (first second : Declarations) (root : Chars) (broken : List BrokenDecl) → set.IsKept first → set.IsKept second → ListsBroken first second root first.elements broken
    → (broken ≡ []) ↔ IsSubset first second root

-- the elements are listed in one way
abbrev pub OneBroken : Type 0
OneBroken =
    (first second : Declarations) (root : Chars) (elements : List Element) (broken others : List BrokenDecl) → ListsBroken first second root elements broken
    → ListsBroken first second root elements others → broken ≡ others

-- two answers are one, unless memory runs out
abbrev pub OneReport : Type 0
OneReport =
    (first second : Declarations) (root : Chars) (result other : Result Report ReportFault) → Reports first second root result → Reports first second root other
    → (result ≡ Err NoMemory → ⊥) → (other ≡ Err NoMemory → ⊥) → result ≡ other
