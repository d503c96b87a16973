use Rattle.std.proofs.Common.{◌≡◌, ◌≤◌, drop}
use Rattle.std.specs.Prelude.{nat_lt}
use Rattle.content_models.specs.Parses.{most_open}
use Rattle.content_models.proofs.parsing.is_too_deep.Given as goal

abbrev pub invariant-loop-c : goal.invariant-loop-c
invariant-loop-c l = record {
  bounded : l.open ≤ 64;
  rest : nat_lt 64 (most_open l.open (drop l.c-index l.text)) ≡ nat_lt 64 (most_open 0 l.text);
}
