use Rattle.std.proofs.Common.{[]}
use Rattle.article_tree.specs.Held.{stacked}
use Rattle.article_tree.proofs.Holding.{item_put, other_ends}
use Rattle.article_tree.proofs.held.put_item.Goals as goal

pub returns-clause-state : goal.returns-clause-state
returns-clause-state c =
    rw (c.end_run.ensures.opens, c.end_run.ensures.spent) (item_put (stacked c.args.held.now.opens.items []) c.args.held.now.items.items c.push.new.self.items c.end_run.new.held.items.items c.args.held.now.run c.end_run.new.held.run c.args.item c.args.held.now.spent
    c.requires.other c.in_ok-end_run.ensures.items c.in_ok-end_run.ensures.run c.in_ok-push.ensures.items)

pub returns-clause-apart : goal.returns-clause-apart
returns-clause-apart c = rw c.in_ok-push.ensures.items (other_ends c.end_run.new.held.items.items c.args.item c.requires.other)
