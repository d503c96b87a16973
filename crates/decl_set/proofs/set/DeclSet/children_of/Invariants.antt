use Rattle.std.proofs.Common.{◌≡◌, map, take}
use Rattle.decl_set.specs.Children.{place_in}
use Rattle.decl_set.proofs.set.DeclSet.children_of.Given as goal

abbrev pub invariant-loop-name : goal.invariant-loop-name
invariant-loop-name l = l.places.items ≡ map (place_in l.self.elements) (take l.name-index l.names)
