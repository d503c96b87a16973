use Rattle.std.proofs.Common.{◌∙◌}
use Rattle.entity_catalog.proofs.Joined.{join_first, join_next}
use Rattle.entity_catalog.proofs.parts.joined_with.Goals as goal
use Rattle.entity_catalog.proofs.parts.joined_with.Goals.{then-k-gt0+in_ok-push, else-k-gt0}

pub loop-k-preserved : goal.loop-k-preserved
loop-k-preserved c =
    elim c.if-k-gt0.branch [
      | then-k-gt0+in_ok-push w ↦ join_next _ _ _ _ c.loop-k.joined _ _ c.in_ok-push_slice.ensures.ok (w.joined-is ∙ w.in_ok-push.ensures.ok) w.if-k-gt0.true c.loop-k-test.true c.loop-k.invariant
      | else-k-gt0 w ↦ join_first _ _ _ _ c.loop-k.joined _ _ c.in_ok-push_slice.ensures.ok w.joined-is w.if-k-gt0.false c.loop-k-test.true c.loop-k.invariant
    ]
