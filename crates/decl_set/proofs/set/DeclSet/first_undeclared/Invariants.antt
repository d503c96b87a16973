use Rattle.std.proofs.Common.{◌≡◌, drop}
use Rattle.attlist_merge.specs.Oddness.{first_some}
use Rattle.decl_set.specs.Declaring.{undeclared}
use Rattle.decl_set.proofs.set.DeclSet.first_undeclared.Given as goal

abbrev pub invariant-loop-notation : goal.invariant-loop-notation
invariant-loop-notation l = first_some (undeclared l.self l.element) (drop l.notation-index l.notations) ≡ first_some (undeclared l.self l.element) l.notations
