use Rattle.std.proofs.Common.{◌≡◌, [], drop}
use Rattle.attlist_merge.specs.Oddness.{first_some, odd_missing}
use Rattle.attlist_merge.proofs.odd.requires_none.Given as goal

abbrev pub invariant-loop-at : goal.invariant-loop-at
invariant-loop-at l = first_some (odd_missing []) (drop l.at l.list) ≡ first_some (odd_missing []) l.list
