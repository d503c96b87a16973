use Rattle.std.proofs.Common.{drop}
use Rattle.bound_checker.specs.Certificates.{pair_lines}
use Rattle.bound_checker.proofs.Putting.{IsPut}
use Rattle.bound_checker.proofs.printing.push_pairs.Given as goal

abbrev pub invariant-loop-pair : goal.invariant-loop-pair
invariant-loop-pair l = IsPut l.initial.out l.out (pair_lines (drop l.pair-index l.pairs)) (pair_lines l.pairs)
