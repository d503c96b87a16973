use Rattle.std.proofs.Common.{◌≡◌, ◌<◌, ◌==◌, ◌&&◌, ℕ, false, get_or, length}
use Rattle.position_automata.proofs.parts.flags.Given as goal

abbrev pub invariant-loop-state : goal.invariant-loop-state
invariant-loop-state l = record {
  len : length l.flags.items ≡ l.state;
  flags : (i : ℕ) → i < l.state → get_or l.flags.items i false ≡ ((i == 0) && l.nullable);
}
