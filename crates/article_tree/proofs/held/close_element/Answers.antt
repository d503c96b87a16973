use Rattle.std.proofs.Common.{◌≡◌, ◌∙◌, refl}
use Rattle.document_trees.specs.Seen.{items_of}
use Rattle.document_trees.specs.Trees.{Node}
use Rattle.article_tree.proofs.Holding.{element_closed, other_ends}
use Rattle.article_tree.proofs.held.close_element.Goals as goal

pub returns-in_ok-push-in-Some-clause-state : goal.returns-in_ok-push-in-Some-clause-state
returns-in_ok-push-in-Some-clause-state c = λ o opens top.
    let h = c.args.held.now in
    let e = c.in-Some.open in
    let node : Node = record { name = e.name; atts = e.atts; items = items_of c.from_vec.result } in
    let inside : c.from_vec.result ≡ c.end_run.new.held.items.items = c.from_vec.ensures ∙ c.shrink_to_fit.ensures.items ∙ rw c.replace-items.ensures.value refl in
    let made : node ≡ record { name = e.name; atts = e.atts; items = items_of c.end_run.new.held.items.items } = rw inside refl in
    rw c.end_run.ensures.spent (element_closed h.opens.items c.pop.new.self.items e h.items.items c.end_run.new.held.items.items c.push.new.self.items h.run c.end_run.new.held.run node h.spent o opens
    (rw c.end_run.ensures.opens at c.in-Some.ensures.items) c.in_ok-end_run.ensures.items c.in_ok-end_run.ensures.run made (rw c.replace-items.ensures.after at c.in_ok-push-in-Some.ensures.items) top)

pub returns-in_ok-push-in-Some-clause-apart : goal.returns-in_ok-push-in-Some-clause-apart
returns-in_ok-push-in-Some-clause-apart c = rw c.in_ok-push-in-Some.ensures.items (other_ends c.replace-items.new.dest.items _ tt)
