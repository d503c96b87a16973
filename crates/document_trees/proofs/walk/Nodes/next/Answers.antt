use Rattle.std.proofs.Common.{ap, ◌∙◌, refl}
use Rattle.document_trees.specs.Trees.{Node}
use Rattle.document_trees.specs.Seen.{items_of}
use Rattle.document_trees.proofs.Walking.{after_top}
use Rattle.document_trees.proofs.walk.Nodes.next.Goals as goal

pub returns-in-Some-clause-rest : goal.returns-in-Some-clause-rest
returns-in-Some-clause-rest c =
    after_top c.self.inside.first c.self.inside.lists.items c.push.new.self.items c.args.self.now c.in-Some.node c.as_slice.result c.in-Some.node.now
    c.self.view_is c.in-Some.is refl (ap items_of c.as_slice.ensures ∙ ap (λ (d : Node). d.items) c.node.view_is) c.in_ok-push.ensures.items
