use Rattle.std.proofs.Common.{arith}
use Rattle.tagset_tool.specs.Counts.{list_length}
use Rattle.tagset_tool.proofs.Counted.{sum_next}
use Rattle.tagset_tool.proofs.counts.attribute_count.Goals as goal

pub loop-k-preserved : goal.loop-k-preserved
loop-k-preserved c =
    let next = sum_next list_length c.args.set.now.lists c.loop-k.k (c.in-Some.field-0-0.now, c.in-Some.list.now) c.in-Some.ensures in
    record { within = omega (arith, next.0); counted = omega (arith, next.1, c.loop-k.invariant.counted, c.in_ok-sum-in-Some.ensures, c.len.ensures.value) }
