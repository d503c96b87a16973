use Rattle.std.proofs.Common.{◌∙◌, ◌++◌, ap}
use Rattle.article_validator.specs.Faults.{root_faults}
use Rattle.article_validator.proofs.Keeping.{listed}
use Rattle.article_validator.proofs.walk.list_of.Goals as goal

pub returns : goal.returns
returns c =
    listed c.args.set.now c.args.root.now c.args.node.now c.in_ok-all.all.keys c.put_root.new.list c.put_nodes.new.list c.in_ok-all.ensures
    (c.in_ok-put_root.ensures ∙ ap (λ l. l ++ root_faults c.args.root.now c.args.node.now) c.new-list.ensures) c.in_ok-put_nodes.ensures
