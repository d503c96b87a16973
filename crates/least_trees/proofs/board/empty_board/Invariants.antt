use Rattle.std.proofs.Common.{◌≡◌, ◌<◌, ◌≤◌, ◌+◌, ℕ, length, slice_index}
use Rattle.least_trees.proofs.board.empty_board.Given as goal

abbrev pub invariant-loop-k : goal.invariant-loop-k
invariant-loop-k l = record {
  size : length l.winners.items ≡ l.k;
  own : (j : ℕ) → j < l.k → slice_index l.winners.items j ≡ j;
}

abbrev pub invariant-loop-y : goal.invariant-loop-y
invariant-loop-y l = record {
  size : length l.winners.items ≡ l.count + l.y;
  own : (j : ℕ) → j < l.count → slice_index l.winners.items j ≡ j;
  spots : (y : ℕ) → y < l.y → slice_index l.winners.items (l.count + y) ≡ y;
}
