-- What least costs that are numbers say: which names have documents, and from which states they lead to acceptance.
use Rattle.std.specs.Prelude.{◌≡◌, ◌↔◌, Bool, true, false, List, [], ◌∷◌, map, Option, Some, None, IsTrue, if◌then◌else◌}
use Rattle.content_models.specs.declared.content.Content.{Content}
use Rattle.content_models.specs.Model.{Chars}
use Rattle.decl_set.specs.Declarations.{Declarations, Element, content_in}
use Rattle.decl_set.specs.Validity.{HasDocument}
use Rattle.model_inclusion.specs.Included.{TellEnds}
use Rattle.tree_costs.specs.declared.cost.Cost.{Cost}
use Rattle.tree_costs.specs.declared.cost.Cost.TheVariants.{Fin, Inf}
use Rattle.tree_costs.specs.declared.least.Least.{Least}
use Rattle.tree_costs.specs.declared.least.LeastRow.{LeastRow}
use Rattle.tree_costs.specs.Leasts.{IsExact, m_of, row_of}
use Rattle.tagset_report.specs.Live.{AreLive}

-- whether the cost is a number
abbrev pub is_finite : Cost → Bool
is_finite (Fin n) = true
is_finite Inf = false

-- an element has a document exactly where its least size is a number
abbrev pub DocumentsByCosts : Type 0
DocumentsByCosts = (set : Declarations) (least : Least) (e : Chars) → IsExact set least → IsTrue (is_finite (m_of set least e)) ↔ HasDocument set e

-- live names lead from a state to acceptance exactly where its least sum is a number
abbrev pub EndsByCosts : Type 0
EndsByCosts =
    (set : Declarations) (least : Least) (live : List Chars) (e : Chars) (a : Content) (row : LeastRow) → IsExact set least → AreLive set live
    → content_in set e ≡ Some a → row_of set least e ≡ Some row → TellEnds live a (map is_finite row.p)

-- the names of the elements whose least size is a number
abbrev pub live_of : List Element → List LeastRow → List Chars
live_of [] rows = []
live_of (e ∷ es) [] = []
live_of (e ∷ es) (row ∷ rows) = if is_finite row.m then e.0 ∷ live_of es rows else live_of es rows

abbrev pub as_list : Option Chars → List Chars
as_list None = []
as_list (Some name) = name ∷ []
