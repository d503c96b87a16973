use Rattle.std.proofs.Common.{◌≡◌, ◌++◌, take}
use Rattle.dtd_flattener.specs.Flat.{escaped, is_special}
use Rattle.dtd_flattener.proofs.texts.put_escaped.Given as goal

abbrev pub invariant-loop-c : goal.invariant-loop-c
invariant-loop-c l = l.out ≡ l.initial.out ++ escaped is_special (take l.c-index l.text)
