use Rattle.std.proofs.Common.{◌≡◌, ◌+◌, ◌≤◌, length}
use Rattle.article_tree.specs.Plain.{run_len}
use Rattle.article_tree.proofs.runs.run_len.Given as goal

abbrev pub invariant-loop-c : goal.invariant-loop-c
invariant-loop-c l = record {
  len : length l.rest ≤ length l.text;
  rest : run_len l.text + length l.rest ≡ run_len l.rest + length l.text;
}

abbrev pub decreases-loop-c : goal.decreases-loop-c
decreases-loop-c l = length l.rest
