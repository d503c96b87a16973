use Rattle.std.proofs.Common.{◌≡◌, ◌≤◌, length, take}
use Rattle.std.specs.List.{sum_by}
use Rattle.tagset_tool.specs.Counts.{list_length}
use Rattle.tagset_tool.proofs.counts.attribute_count.Given as goal

abbrev pub invariant-loop-k : goal.invariant-loop-k
invariant-loop-k l = record {
  within : l.k ≤ length l.set.lists;
  counted : l.sum ≡ sum_by list_length (take l.k l.set.lists);
}
