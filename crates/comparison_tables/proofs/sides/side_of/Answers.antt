use Rattle.std.proofs.Common.{Err, subst}
use Rattle.model_inclusion.specs.declared.fault.PairFault.{PairFault}
use Rattle.model_inclusion.specs.Listed.{ListsPairs}
use Rattle.comparison_tables.proofs.Finding.{pairs_found, passed}
use Rattle.comparison_tables.proofs.sides.side_of.Goals as goal

pub returns-in-Ok : goal.returns-in-Ok
returns-in-Ok c = (
  pairs_found c.args.first.now c.args.second.now c.args.name.now c.args.automaton.now c.args.left c.requires.few c.is_odd-odd.result c.is_odd-odd.ensures
      c.args.live.now c.requires.live c.in-Some.other.now c.in-Some.ensures c.in-Ok.pairs c.in-Ok.ensures,
  c.in-Ok.ensures.1,
)

pub returns-in_ok-copy-in-PairsOver : goal.returns-in_ok-copy-in-PairsOver
returns-in_ok-copy-in-PairsOver c = (
  c.in_ok-copy-in-PairsOver.ensures,
  passed c.args.first.now c.args.second.now c.args.name.now c.args.automaton.now c.args.left c.requires.few c.is_odd-odd.result c.is_odd-odd.ensures
      c.args.live.now c.requires.live c.in-Some.other.now c.in-Some.ensures
      (subst (λ (f : PairFault). ListsPairs c.args.live.now c.args.automaton.now c.in-Some.other.now c.args.left (Err f)) c.in-PairsOver.is c.in-Err.ensures),
)
