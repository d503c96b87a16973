use Rattle.std.proofs.Common.{◌≡◌, drop}
use Rattle.std.specs.List.{list_any}
use Rattle.attlist_merge.specs.Lists.{is_id_entry}
use Rattle.attlist_merge.proofs.list.AttList.has_id.Given as goal

abbrev pub invariant-loop-at : goal.invariant-loop-at
invariant-loop-at l = list_any is_id_entry (drop l.at l.self) ≡ list_any is_id_entry l.self
