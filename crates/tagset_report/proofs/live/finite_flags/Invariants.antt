use Rattle.std.proofs.Common.{◌≡◌, map, take}
use Rattle.tagset_report.specs.Finite.{is_finite}
use Rattle.tagset_report.proofs.live.finite_flags.Given as goal

abbrev pub invariant-loop-cost : goal.invariant-loop-cost
invariant-loop-cost l = l.flags.items ≡ map is_finite (take l.cost-index l.costs)
