use Rattle.std.proofs.Common.{◌≡◌, drop, bytes_eq}
use Rattle.std.specs.Map.{lookup}
use Rattle.decl_set.specs.Declarations.{content_in}
use Rattle.bound_checker.proofs.entries.declared.Given as goal

abbrev pub invariant-loop-at : goal.invariant-loop-at
invariant-loop-at l = lookup (bytes_eq l.word) (drop l.at l.first.elements) ≡ content_in l.first l.word
