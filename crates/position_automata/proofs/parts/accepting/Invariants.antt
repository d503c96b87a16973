use Rattle.std.proofs.Common.{◌≡◌, ◌<◌, ◌==◌, ◌&&◌, ◌||◌, ℕ, false, nat_eq, get_or, length, take}
use Rattle.std.specs.List.{list_any}
use Rattle.position_automata.proofs.parts.accepting.Given as goal

abbrev pub invariant-loop-state : goal.invariant-loop-state
invariant-loop-state l = record {
  len : length l.flags.items ≡ l.states;
  flags : (i : ℕ) → i < l.states → get_or l.flags.items i false ≡ (((i == 0) && l.nullable) || list_any (nat_eq i) (take l.state-index l.last));
}
