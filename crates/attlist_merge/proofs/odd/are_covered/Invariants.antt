use Rattle.std.proofs.Common.{◌≡◌, drop}
use Rattle.attlist_merge.specs.Oddness.{first_some, odd_value}
use Rattle.attlist_merge.proofs.odd.are_covered.Given as goal

abbrev pub invariant-loop-at : goal.invariant-loop-at
invariant-loop-at l = first_some (odd_value l.second) (drop l.at l.first) ≡ first_some (odd_value l.second) l.first
