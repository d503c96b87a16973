use Rattle.std.proofs.Common.{◌∙◌, ap, arith, length, sym}
use Rattle.document_trees.proofs.Listed.{size_in_list}
use Rattle.document_trees.proofs.Walking.{none_left}
use Rattle.document_trees.proofs.walk.elements.Goals as goal

pub loop-nodes-init : goal.loop-nodes-init
loop-nodes-init c = (omega arith, omega (arith, size_in_list c.args.node.now, ap length c.new-nodes.ensures))

pub returns : goal.returns
returns c =
    let none = none_left c.loop-nodes.nodes c.in_ok-next.field-0 c.in_ok-next.ensures.node (sym c.is_some.ensures ∙ c.if-is_some.false) in
    omega (arith, ap length none)
