use Rattle.std.proofs.Common.{◌∙◌, ap}
use Rattle.article_tree.specs.Held.{held_items}
use Rattle.article_tree.proofs.Holding.{run_none, run_joined_last}
use Rattle.article_tree.proofs.held.end_run.Goals as goal

pub returns-in-None-clause-items : goal.returns-in-None-clause-items
returns-in-None-clause-items c = run_none c.args.held.now.items.items ∙ ap (held_items c.args.held.now.items.items) c.in-None.ensures.value

pub returns-in_ok-push-in-Some-clause-items : goal.returns-in_ok-push-in-Some-clause-items
returns-in_ok-push-in-Some-clause-items c =
    rw c.in_ok-push-in-Some.ensures.items (run_joined_last c.args.held.now.items.items c.in-Some.run'.text c.in-Some.run'.plain c.requires ∙ ap (held_items c.args.held.now.items.items) c.in-Some.ensures.value)
