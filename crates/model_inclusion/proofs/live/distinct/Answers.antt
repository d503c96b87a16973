use Rattle.std.proofs.Common.{get_or, sym, subst, ◌≡◌}
use Rattle.position_automata.proofs.Numbers.{found_more}
use Rattle.model_inclusion.proofs.live.distinct.Goals as goal

pub loop-name-preserved : goal.loop-name-preserved
loop-name-preserved c name =
    let e : c.in_ok-copy.field-0 ≡ c.name-item.result = c.in_ok-copy.ensures in
    found_more name c.in_ok-copy.field-0 _ _ c.args.names.now c.loop-name.name-index c.loop-name-test.true
    (subst (λ k. k ≡ get_or c.args.names.now c.loop-name.name-index k) (sym e) c.name-item.is)
    (c.in_ok-insert.ensures.updates.0 name) (c.loop-name.invariant name)
