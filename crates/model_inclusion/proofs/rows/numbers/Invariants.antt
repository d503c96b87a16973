use Rattle.std.proofs.Common.{◌≡◌, map, take}
use Rattle.model_inclusion.specs.Rows.{number_of}
use Rattle.model_inclusion.proofs.rows.numbers.Given as goal

abbrev pub invariant-loop-name : goal.invariant-loop-name
invariant-loop-name l = l.numbers.items ≡ map (number_of l.live) (take l.name-index l.names)
