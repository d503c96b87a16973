use Rattle.std.proofs.Common.{◌≡◌, drop}
use Rattle.attlist_merge.specs.Oddness.{first_some}
use Rattle.decl_set.specs.Declaring.{entity_fault}
use Rattle.decl_set.proofs.set.DeclSet.first_entity_fault.Given as goal

abbrev pub invariant-loop-at : goal.invariant-loop-at
invariant-loop-at l = first_some (entity_fault l.self) (drop l.at l.self.entities) ≡ first_some (entity_fault l.self) l.self.entities
