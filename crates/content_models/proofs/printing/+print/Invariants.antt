use Rattle.std.proofs.Common.{◌≡◌, ◌++◌, map, take}
use Rattle.content_models.specs.Spelling.{spelled, joined}
use Rattle.content_models.proofs.printing.+print.Given as goal

abbrev pub invariant-print_parts-loop-at : goal.invariant-print_parts-loop-at
invariant-print_parts-loop-at l = l.out ≡ l.initial.out ++ joined l.separator (map spelled (take l.at l.parts))
