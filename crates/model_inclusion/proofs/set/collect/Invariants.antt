use Rattle.std.proofs.Common.{◌≡◌, ◌++◌, drop}
use Rattle.model_inclusion.specs.Reaching.{pairs_from}
use Rattle.model_inclusion.proofs.set.collect.Given as goal

abbrev pub invariant-loop-pair : goal.invariant-loop-pair
invariant-loop-pair l = l.pairs.items ++ pairs_from l.pair l.width (drop l.pair l.seen) ≡ pairs_from 0 l.width l.seen
