-- What a set keeps of its parts.
use Rattle.std.specs.Prelude.{◌≡◌, ℕ, List}
use Rattle.std.specs.List.{AllByRecursion}
use Rattle.decl_set.specs.Asked.{IsKept}
use Rattle.decl_set.specs.Children.{AreChildren}
use Rattle.decl_set.specs.Declarations.{follows_in}
use Rattle.decl_set.specs.DeclaredBy.{declared_by}
use Rattle.decl_set.specs.declared.set.Declared.{Declared}
use Rattle.decl_set.specs.declared.set.DeclSet.TheInside.{Inside}

-- the automaton is that of the content
abbrev pub IsBuilt : List ℕ × Declared → Type 0
IsBuilt e = e.1.automaton ≡ e.1.content

-- the constraints of a set hold, each element has its automaton, the follows are counted, and the places of children are right
pub record IsInside (s : Inside) : Type 0 where
  pub kept : IsKept (declared_by s)
  pub built : AllByRecursion IsBuilt s.elements.entries
  pub counted : s.follows ≡ follows_in (declared_by s).elements
  pub children_are : AreChildren (declared_by s).elements s.children
