use Rattle.std.proofs.Common.{◌≡◌, drop}
use Rattle.attlist_merge.specs.Oddness.{first_some, odd_missing}
use Rattle.attlist_merge.proofs.odd.are_required.Given as goal

abbrev pub invariant-loop-at : goal.invariant-loop-at
invariant-loop-at l = first_some (odd_missing l.first) (drop l.at l.second) ≡ first_some (odd_missing l.first) l.second
