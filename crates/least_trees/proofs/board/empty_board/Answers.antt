use Rattle.std.proofs.Common.{◌≡◌, ◌<◌, ◌+◌, ℕ, length, slice_index, arith, ap, ◌∙◌}
use Rattle.least_trees.proofs.Boards.{blank, own_push, own_more, blank_more}
use Rattle.least_trees.proofs.board.empty_board.Goals as goal

pub returns : goal.returns
returns c =
    let e : c.loop-y.y ≡ c.args.count = omega arith in
    blank c.loop-y.winners.items c.args.count (c.loop-y.invariant.size ∙ ap (λ z. c.args.count + z) e) c.loop-y.invariant.own
    (λ k h. c.loop-y.invariant.spots k (omega arith))
