use Rattle.std.proofs.Common.{arith}
use Rattle.model_inclusion.proofs.Turning.{row_more}
use Rattle.model_inclusion.proofs.rows.rows.Goals as goal

pub loop-state-preserved : goal.loop-state-preserved
loop-state-preserved c =
    let f = row_more c.args.live.now c.args.automaton.now c.loop-state.state c.loop-state.rows c.push.new.self c.in_ok-row.row
    c.loop-state.invariant.count c.loop-state.invariant.are c.in_ok-row.ensures c.in_ok-push.ensures.ok in
    record { count = f.count; are = f.are }

pub returns-clause-rows : goal.returns-clause-rows
returns-clause-rows c =
    let e = c.states-state-end.ensures.states in
    record {
      count = omega (arith, c.loop-state.invariant.count, c.loop-state.auto.state-end, c.loop-state-test.false, e);
      are = λ i h. c.loop-state.invariant.are i (omega (arith, h, c.loop-state-test.false, e));
    }
