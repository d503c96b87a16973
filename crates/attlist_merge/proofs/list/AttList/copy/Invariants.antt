use Rattle.std.proofs.Common.{◌≡◌, take}
use Rattle.attlist_merge.proofs.list.AttList.copy.Given as goal

abbrev pub invariant-loop-at : goal.invariant-loop-at
invariant-loop-at l = l.atts.entries ≡ take l.at l.self
