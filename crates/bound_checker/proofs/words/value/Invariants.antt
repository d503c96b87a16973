use Rattle.std.proofs.Common.{drop, ◌<◌, ◌^◌}
use Rattle.bound_checker.proofs.Spelling.{IsRead}
use Rattle.bound_checker.proofs.words.value.Given as goal

abbrev pub invariant-loop-c : goal.invariant-loop-c
invariant-loop-c l = record { read : IsRead l.digits l.value (drop l.c-index l.digits); small : l.value < 2 ^ 32 }
