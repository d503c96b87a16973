use Rattle.std.proofs.Common.{◌≡◌, drop}
use Rattle.jats_chars.specs.Classes.{ascend_above}
use Rattle.jats_chars.proofs.classes.ascends_above.Given as goal

-- what is left decides
abbrev pub invariant-loop-row : goal.invariant-loop-row
invariant-loop-row l = ascend_above l.fn.low l.rows ≡ ascend_above l.last (drop l.row-index l.rows)
