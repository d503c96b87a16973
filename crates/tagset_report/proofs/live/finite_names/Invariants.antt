use Rattle.std.proofs.Common.{◌≡◌, ◌++◌, drop}
use Rattle.tagset_report.specs.Finite.{live_of}
use Rattle.tagset_report.proofs.live.finite_names.Given as goal

abbrev pub invariant-loop-k : goal.invariant-loop-k
invariant-loop-k l = l.names ++ live_of (drop l.k l.set.elements) (drop l.k l.rows) ≡ live_of l.set.elements l.rows
