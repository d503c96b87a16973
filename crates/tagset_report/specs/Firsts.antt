-- What a report says of all documents of two sets.
use Rattle.std.specs.Prelude.{◌<◌, ◌↔◌, ℕ, List, ◌∷◌}
use Rattle.content_models.specs.Model.{Chars}
use Rattle.document_trees.specs.Trees.{Node}
use Rattle.decl_set.specs.Declarations.{Declarations}
use Rattle.decl_set.specs.Asked as set
use Rattle.decl_set.specs.Validity.{HasDocument, IsSeparating, IsUseful}
use Rattle.decl_set.specs.Breaks.{Breaks, IsFirstBroken}
use Rattle.decl_set.specs.declared.breaks.Cause.{Cause}
use Rattle.decl_set.specs.declared.breaks.BrokenDecl.{BrokenDecl}
use Rattle.tagset_report.specs.Reported.{ListsBroken, CountsUseful}

-- the first that is listed is the first useful element that breaks
abbrev pub FirstListed : Type 0
FirstListed =
    (first second : Declarations) (root : Chars) (broken : BrokenDecl) (rest : List BrokenDecl) → ListsBroken first second root first.elements (broken ∷ rest)
    → IsFirstBroken first second root broken.element broken.cause

-- round a useful element that breaks there is a separating document
abbrev pub SeparatedByBreaks : Type 0
SeparatedByBreaks =
    (first second : Declarations) (root e : Chars) (k : Cause) → set.IsKept first → set.IsKept second → IsUseful first root e → Breaks first second e k
    → (node : Node) × IsSeparating first second root node

-- some element is useful exactly where the root has a document
abbrev pub DocumentsByUseful : Type 0
DocumentsByUseful = (first : Declarations) (root : Chars) (n : ℕ) → CountsUseful first root first.elements n → (0 < n) ↔ HasDocument first root
