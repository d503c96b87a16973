use Rattle.std.proofs.Common.{◌≡◌, drop, length}
use Rattle.model_inclusion.specs.Reaching.{common, visit}
use Rattle.model_inclusion.proofs.reach.visit_row.Given as goal

abbrev pub invariant-loop-number : goal.invariant-loop-number
invariant-loop-number l = record {
  length_same : length l.seen.items ≡ length l.initial.seen.items;
  value : visit (common (drop l.number-index l.row) l.steps l.width) (l.seen.items, l.stack.items) ≡ visit (common l.row l.steps l.width) (l.initial.seen.items, l.initial.stack.items);
}
