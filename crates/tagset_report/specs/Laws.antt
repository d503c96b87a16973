-- Every document of the first is one of the second exactly where no useful element breaks.
use Rattle.std.specs.Prelude.{◌↔◌}
use Rattle.content_models.specs.Model.{Chars}
use Rattle.decl_set.specs.Declarations.{Declarations}
use Rattle.decl_set.specs.Asked.{IsKept}
use Rattle.decl_set.specs.Validity.{IsSubset, IsUseful}
use Rattle.decl_set.specs.Breaks.{Breaks}
use Rattle.decl_set.specs.declared.breaks.Cause.{Cause}

abbrev pub NoneBreaks : Declarations → Declarations → Chars → Type 0
NoneBreaks first second root = (e : Chars) → IsUseful first root e → (k : Cause) → Breaks first second e k → ⊥

abbrev pub SubsetByBreaks : Type 0
SubsetByBreaks = (first second : Declarations) (root : Chars) → IsKept first → IsKept second → IsSubset first second root ↔ NoneBreaks first second root
