use Rattle.std.proofs.Common.{◌≡◌, ◌+◌, ◌*◌, length, replicate, None}
use Rattle.model_inclusion.specs.Reaching.{Working, unseen, next}
use Rattle.model_inclusion.proofs.reach.reached.Given as goal

abbrev pub invariant-loop-pair : goal.invariant-loop-pair
invariant-loop-pair l = record {
  works : Working (next l.firsts l.seconds l.names) (length l.firsts * length l.seconds) l.seen.items l.stack.items;
  blank : l.steps.items ≡ replicate l.names None;
}

abbrev pub decreases-loop-pair : goal.decreases-loop-pair
decreases-loop-pair l = 2 * unseen l.seen.items + length l.stack.items
