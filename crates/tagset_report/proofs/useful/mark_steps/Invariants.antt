use Rattle.std.proofs.Common.{◌≡◌, ◌≤◌, ◌-◌, length, drop}
use Rattle.model_inclusion.specs.Reaching.{visit}
use Rattle.tagset_report.specs.Useful.{steps_numbers, children_at}
use Rattle.tagset_report.proofs.useful.mark_steps.Given as goal

abbrev pub invariant-loop-step : goal.invariant-loop-step
invariant-loop-step l = record {
  within : l.k ≤ length (children_at l.set l.e l.state);
  length_same : length l.seen.items ≡ length l.initial.seen.items;
  value : visit (steps_numbers l.rows l.e (drop l.k (children_at l.set l.e l.state))) (l.seen.items, l.stack.items)
      ≡ visit (steps_numbers l.rows l.e (children_at l.set l.e l.state)) (l.initial.seen.items, l.initial.stack.items);
}

abbrev pub decreases-loop-step : goal.decreases-loop-step
decreases-loop-step l = length (children_at l.set l.e l.state) - l.k
