use Rattle.std.proofs.Common.{◌≡◌, drop}
use Rattle.std.specs.List.{list_any}
use Rattle.model_inclusion.specs.Included.{lacking}
use Rattle.model_inclusion.proofs.parting.has_lacking.Given as goal

abbrev pub invariant-loop-step : goal.invariant-loop-step
invariant-loop-step l = list_any (lacking l.steps l.ends) (drop l.step-index l.row) ≡ list_any (lacking l.steps l.ends) l.row
