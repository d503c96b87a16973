use Rattle.std.proofs.Common.{◌∷◌, [], ap, ◌∙◌}
use Rattle.document_trees.specs.Trees.{Items, Node, joined}
use Rattle.document_trees.specs.Seen.{items_of}
use Rattle.document_trees.proofs.Seen.{items_joined}
use Rattle.document_trees.proofs.nodes.Node.push.Goals as goal

pub returns-clause-ok : goal.returns-clause-ok
returns-clause-ok c =
    let items = ap items_of c.in_ok-push.ensures.ok ∙ items_joined c.self.inside.items (c.args.item ∷ []) in
    ap (λ (k : Items). record { name = c.self.inside.name; atts = c.self.inside.atts; items = k }) items
    ∙ ap (λ (d : Node). record { name = d.name; atts = d.atts; items = joined d.items (items_of (c.args.item ∷ [])) }) c.self.view_is
