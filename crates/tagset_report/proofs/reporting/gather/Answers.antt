use Rattle.std.proofs.Common.{arith, ◌<◌, ◌+◌, ◌-◌, length, get_or, false, refl, ap}
use Rattle.tagset_report.proofs.Gathering.{few_pairs, turned, fault_turned}
use Rattle.tagset_report.proofs.reporting.gather.Goals as goal

pub returns-in-Err : goal.returns-in-Err
returns-in-Err c =
    let w : c.loop-e.e < length c.args.first.now.elements = omega (arith, c.loop-e-test.true, c.count-e-end.ensures.value) in
    fault_turned c.args.first.now c.args.second.now c.args.root.now c.loop-e.e c.loop-e.useful c.loop-e.left c.loop-e.differs c.loop-e.invariant w
    c.requires.declared c.in-Err.fault c.in-Err.ensures

pub overflow_sub-left : goal.overflow_sub-left
overflow_sub-left c =
    let w : c.loop-e.e < length c.args.first.now.elements = omega (arith, c.loop-e-test.true, c.count-e-end.ensures.value) in
    few_pairs c.args.first.now c.args.second.now c.args.root.now c.loop-e.e c.loop-e.useful c.loop-e.left c.loop-e.differs c.loop-e.invariant w c.in-Ok.judged c.in-Ok.ensures

pub loop-e-preserved : goal.loop-e-preserved
loop-e-preserved c =
    let w : c.loop-e.e < length c.args.first.now.elements = omega (arith, c.loop-e-test.true, c.count-e-end.ensures.value) in
    let few = few_pairs c.args.first.now c.args.second.now c.args.root.now c.loop-e.e c.loop-e.useful c.loop-e.left c.loop-e.differs c.loop-e.invariant w c.in-Ok.judged c.in-Ok.ensures in
    turned c.args.first.now c.args.second.now c.args.root.now c.loop-e.e c.loop-e.useful c.loop-e.left c.loop-e.differs c.loop-e.invariant w c.in-Ok.judged
    c.args.flags.now (get_or c.args.flags.now c.loop-e.e false) (c.loop-e.useful + c.counted-useful.result) (c.loop-e.left - c.in-Ok.judged.pairs) c.push_useful.new.differs
    c.in-Ok.ensures c.requires.flags refl (ap (λ n. c.loop-e.useful + n) c.counted-useful.ensures) c.in_ok-push_useful-in-Ok.ensures (omega (arith, few))
