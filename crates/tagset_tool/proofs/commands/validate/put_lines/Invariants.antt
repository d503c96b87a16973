use Rattle.std.proofs.Common.{◌≡◌, ◌++◌, take}
use Rattle.std.specs.List.{flat_map}
use Rattle.tagset_tool.specs.commands.Validate.{fault_line}
use Rattle.tagset_tool.proofs.commands.validate.put_lines.Given as goal

abbrev pub invariant-loop-invalid : goal.invariant-loop-invalid
invariant-loop-invalid l = l.out.items ≡ l.initial.out.items ++ flat_map fault_line (take l.invalid-index l.list)
