use Rattle.std.proofs.Common.{◌≡◌, drop}
use Rattle.model_inclusion.specs.Reaching.{noted}
use Rattle.model_inclusion.proofs.reach.note.Given as goal

abbrev pub invariant-loop-number : goal.invariant-loop-number
invariant-loop-number l = noted (drop l.number-index l.row) l.steps.items ≡ noted l.row l.initial.steps.items
