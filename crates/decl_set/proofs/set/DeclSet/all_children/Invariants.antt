use Rattle.std.proofs.Common.{◌≡◌, map, take}
use Rattle.decl_set.specs.Children.{children_of}
use Rattle.decl_set.proofs.set.DeclSet.all_children.Given as goal

abbrev pub invariant-loop-e : goal.invariant-loop-e
invariant-loop-e l = l.all ≡ map (λ d. children_of l.self.elements d.1) (take l.e l.self.elements)
