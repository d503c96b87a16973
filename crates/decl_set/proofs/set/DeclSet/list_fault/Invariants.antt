use Rattle.std.proofs.Common.{◌≡◌, drop}
use Rattle.attlist_merge.specs.Oddness.{first_some}
use Rattle.decl_set.specs.Declaring.{notation_fault}
use Rattle.decl_set.proofs.set.DeclSet.list_fault.Given as goal

abbrev pub invariant-loop-at : goal.invariant-loop-at
invariant-loop-at l = first_some (notation_fault l.self l.element) (drop l.at l.list) ≡ first_some (notation_fault l.self l.element) l.list
