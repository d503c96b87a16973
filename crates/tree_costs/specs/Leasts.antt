-- Tables of least costs, and what they say of each element and state.
use Rattle.std.specs.Prelude.{◌≡◌, ℕ, List, [], ◌∷◌, Option, option_and_then, position, slice_get, length, bytes_eq}
use Rattle.std.specs.Option.{option_map_or}
use Rattle.content_models.specs.Model.{Chars}
use Rattle.position_automata.specs.Automata.{states}
use Rattle.decl_set.specs.Declarations.{Declarations, Element}
use Rattle.tree_costs.specs.declared.cost.Cost.{Cost}
use Rattle.tree_costs.specs.declared.cost.Cost.TheVariants.{Inf}
use Rattle.tree_costs.specs.declared.least.LeastRow.{LeastRow}
use Rattle.tree_costs.specs.declared.least.Least.{Least}
use Rattle.tree_costs.specs.Families.{AreExact}

-- the place of an element in order of declaration, counted from 0
abbrev pub place_of : Declarations → Chars → Option ℕ
place_of set e = position (λ x. bytes_eq e x.0) set.elements

-- the row of an element
abbrev pub row_of : Declarations → Least → Chars → Option LeastRow
row_of set least e = option_and_then (slice_get least.rows) (place_of set e)

-- its least size, and Inf where it has no row
abbrev pub m_of : Declarations → Least → Chars → Cost
m_of set least e = option_map_or (λ row. row.m) (row_of set least e) Inf

-- the least sum from one of its states, and Inf where there is none
abbrev pub p_of : Declarations → Least → Chars → ℕ → Cost
p_of set least e i = option_map_or (λ c. c) (option_and_then (λ row. slice_get row.p i) (row_of set least e)) Inf

-- a row for each element, in order, with a cost for each state
abbrev pub FitRows : List Element → List LeastRow → Type 0
FitRows [] [] = Unit {0}
FitRows [] (row ∷ rows) = ⊥
FitRows (e ∷ es) [] = ⊥
FitRows (e ∷ es) (row ∷ rows) = (length row.p ≡ states e.1) × FitRows es rows

-- the table has the least costs of the set
pub record IsExact (set : Declarations) (least : Least) : Type 0 where
  pub rows : FitRows set.elements least.rows
  pub costs : AreExact set least.cap (m_of set least) (p_of set least)
