use Rattle.std.proofs.Common.{◌≡◌, ◌<◌, ℕ, [], length, get_or}
use Rattle.model_inclusion.specs.Rows.{IsRow}
use Rattle.model_inclusion.proofs.rows.rows.Given as goal

abbrev pub invariant-loop-state : goal.invariant-loop-state
invariant-loop-state l = record {
  count : length l.rows ≡ l.state;
  are : (i : ℕ) → i < l.state → IsRow l.live l.automaton i (get_or l.rows i []);
}
