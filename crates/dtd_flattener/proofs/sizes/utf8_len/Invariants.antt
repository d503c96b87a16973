use Rattle.std.proofs.Common.{◌≡◌, take}
use Rattle.dtd_flattener.specs.Sizes.{size_of, capped}
use Rattle.dtd_flattener.proofs.sizes.utf8_len.Given as goal

abbrev pub invariant-loop-c : goal.invariant-loop-c
invariant-loop-c l = l.total ≡ capped (size_of (take l.c-index l.text))
