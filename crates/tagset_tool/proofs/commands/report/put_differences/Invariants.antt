use Rattle.std.proofs.Common.{◌≡◌, ◌++◌, take}
use Rattle.std.specs.List.{flat_map}
use Rattle.tagset_tool.specs.commands.Report.{differs_line}
use Rattle.tagset_tool.proofs.commands.report.put_differences.Given as goal

abbrev pub invariant-loop-broken : goal.invariant-loop-broken
invariant-loop-broken l = l.out.items ≡ l.initial.out.items ++ flat_map differs_line (take l.broken-index l.differs)
