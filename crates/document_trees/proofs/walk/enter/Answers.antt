use Rattle.std.proofs.Common.{arith, ap}
use Rattle.document_trees.specs.Trees.{Node}
use Rattle.document_trees.proofs.Walking.{left_entered}
use Rattle.document_trees.proofs.walk.enter.Goals as goal

pub returns-clause-ok : goal.returns-clause-ok
returns-clause-ok c =
    let e = left_entered c.args.lists.now.items c.args.after c.as_slice.result (omega arith) in
    let n = ap (λ (d : Node). d.items) c.node.view_is in
    let p = c.in_ok-push.ensures.items in
    cc
