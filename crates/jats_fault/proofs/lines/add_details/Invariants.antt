use Rattle.std.proofs.Common.{◌≡◌, ◌++◌, drop, string_bytes}
use Rattle.jats_fault.specs.Lines as spec
use Rattle.jats_fault.proofs.lines.add_details.Given as goal

-- what is left makes the line whole
abbrev pub invariant-loop-detail : goal.invariant-loop-detail
invariant-loop-detail l = string_bytes l.line ++ spec.spaced_all (drop l.detail-index l.details) ≡ string_bytes l.initial.line ++ spec.spaced_all l.details
