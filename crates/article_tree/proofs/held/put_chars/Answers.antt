use Rattle.std.proofs.Common.{[], sym}
use Rattle.article_tree.specs.Held.{stacked}
use Rattle.article_tree.proofs.Holding.{chars_begun, chars_longer}
use Rattle.article_tree.proofs.held.put_chars.Goals as goal

pub returns-in_ok-new_run-in-None-clause-state : goal.returns-in_ok-new_run-in-None-clause-state
returns-in_ok-new_run-in-None-clause-state c =
    let h = c.args.held.now in
    chars_begun (stacked h.opens.items []) h.items.items h.run c.in_ok-new_run-in-None.field-0 c.args.chars.now c.args.plain h.spent (sym c.in-None.ensures.value) c.in_ok-new_run-in-None.ensures

pub returns-in_ok-longer-in-Some-clause-state : goal.returns-in_ok-longer-in-Some-clause-state
returns-in_ok-longer-in-Some-clause-state c =
    let h = c.args.held.now in
    chars_longer (stacked h.opens.items []) h.items.items h.run c.in-Some.run' c.in_ok-longer-in-Some.field-0 c.args.chars.now c.args.plain h.spent (sym c.in-Some.ensures.value) c.in_ok-longer-in-Some.ensures
