-- Useful elements are those that chains of children reach.
use Rattle.std.specs.Prelude.{◌≡◌, ◌↔◌, List, [], ◌∷◌, Some, IsTrue}
use Rattle.std.specs.List.{AllByRecursion}
use Rattle.content_models.specs.declared.content.Content.{Content}
use Rattle.content_models.specs.Model.{Chars, among}
use Rattle.position_automata.specs.Runs.{Runs}
use Rattle.decl_set.specs.Declarations.{Declarations, content_in}
use Rattle.decl_set.specs.Asked.{IsKept}
use Rattle.decl_set.specs.Validity.{HasDocument, IsUseful}

-- the child is one of some names that the element may hold, each of them with a document
abbrev pub IsLiveChild : Declarations → Chars → Chars → Type 0
IsLiveChild set e child =
    (a : Content) × (names : List Chars) × (content_in set e ≡ Some a) × Runs a 0 names × AllByRecursion (HasDocument set) names × IsTrue (among names child)

-- a chain of live children from the one element to the other
abbrev pub Chain : Declarations → Chars → List Chars → Chars → Type 0
Chain set e [] f = e ≡ f
Chain set e (child ∷ path) f = IsLiveChild set e child × Chain set child path f

-- an element is useful exactly where the root has a document and a chain leads to it
abbrev pub UsefulByChains : Type 0
UsefulByChains = (set : Declarations) (root e : Chars) → IsKept set → IsUseful set root e ↔ (HasDocument set root × ((path : List Chars) × Chain set root path e))
