use Rattle.std.proofs.Common.{◌≡◌, ◌≤◌, drop, length, true}
use Rattle.std.specs.List.{list_all}
use Rattle.bound_checker.proofs.Certificates.{is_solid}
use Rattle.bound_checker.proofs.words.split.Given as goal

abbrev pub invariant-loop-end : goal.invariant-loop-end
invariant-loop-end l = (l.end ≤ length l.words) × (list_all is_solid (drop l.end l.words) ≡ true)

abbrev pub decreases-loop-end : goal.decreases-loop-end
decreases-loop-end l = l.end
