use Rattle.std.proofs.Common.{◌≡◌, drop}
use Rattle.model_inclusion.specs.Reaching.{forgotten}
use Rattle.model_inclusion.proofs.reach.forget.Given as goal

abbrev pub invariant-loop-number : goal.invariant-loop-number
invariant-loop-number l = forgotten (drop l.number-index l.row) l.steps.items ≡ forgotten l.row l.initial.steps.items
