use Rattle.std.proofs.Common.{◌≡◌, [], refl}
use Rattle.article_tree.specs.declared.held.OpenElement.{OpenElement}
use Rattle.article_tree.proofs.Holding.{element_opened}
use Rattle.article_tree.proofs.held.open_element.Goals as goal

pub returns-clause-state : goal.returns-clause-state
returns-clause-state c =
    let h = c.args.held.now in
    let o : OpenElement = record { name = c.args.name; atts = c.args.atts; before = c.replace-before.result } in
    let same : c.replace-before.result.items ≡ c.end_run.new.held.items.items = rw c.replace-before.ensures.value refl in
    let nil : c.replace-before.new.dest.items ≡ [] = rw c.replace-before.ensures.after c.new.ensures.items in
    element_opened h.opens.items c.push.new.self.items o h.items.items c.end_run.new.held.items.items c.replace-before.new.dest.items h.run c.end_run.new.held.run c.args.spent
    c.in_ok-end_run.ensures.items c.in_ok-end_run.ensures.run nil same (rw c.end_run.ensures.opens at c.in_ok-push.ensures.items)
