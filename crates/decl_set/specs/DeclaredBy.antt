use Rattle.std.specs.Prelude.{ℕ, List, map}
use Rattle.decl_set.specs.Declarations.{Declarations, Element}
use Rattle.decl_set.specs.declared.set.Declared.{Declared}
use Rattle.decl_set.specs.declared.set.DeclSet.TheInside.{Inside}

-- an element with what is kept of it
abbrev pub as_element : List ℕ × Declared → Element
as_element e = (e.0, e.1.content)

-- what the maps of a set hold
abbrev pub declared_by : Inside → Declarations
declared_by s = record { elements = map as_element s.elements.entries; lists = s.lists.entries; entities = s.entities.entries; notations = s.notations.entries }
