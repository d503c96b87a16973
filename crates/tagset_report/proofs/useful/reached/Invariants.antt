use Rattle.std.proofs.Common.{◌+◌, ◌*◌, length}
use Rattle.model_inclusion.specs.Reaching.{Working, unseen}
use Rattle.tree_costs.specs.Leasts.{place_of}
use Rattle.tagset_report.specs.Useful.{next_numbers, count_numbers}
use Rattle.tagset_report.proofs.useful.reached.Given as goal

abbrev pub invariant-loop-number : goal.invariant-loop-number
invariant-loop-number l = Working (next_numbers l.set l.rows (place_of l.set l.root)) (count_numbers l.set) l.seen.items l.stack.items

abbrev pub decreases-loop-number : goal.decreases-loop-number
decreases-loop-number l = 2 * unseen l.seen.items + length l.stack.items
