use Rattle.std.proofs.Common.{◌≡◌, ◌<◌, ℕ, length, get_or, false}
use Rattle.tagset_report.specs.Useful.{number_at}
use Rattle.tagset_report.proofs.useful.useful_flags.Given as goal

abbrev pub invariant-loop-e : goal.invariant-loop-e
invariant-loop-e l = record {
  length_same : length l.flags.items ≡ l.e;
  same : (k : ℕ) → k < l.e → get_or l.flags.items k false ≡ get_or l.seen.items (number_at k 0) false;
}
