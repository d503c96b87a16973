use Rattle.std.proofs.Common.{arith, []}
use Rattle.article_tree.specs.Held.{held_items, stacked}
use Rattle.article_tree.specs.Outcomes.{standing_of}
use Rattle.article_tree.proofs.Holding.{stacked_length}
use Rattle.article_tree.proofs.Skipping.{whole_open}
use Rattle.article_tree.proofs.Tagged.{refuses_fails}
use Rattle.article_tree.proofs.outside.whole.Goals as goal

pub returns-then-len-gt0 : goal.returns-then-len-gt0
returns-then-len-gt0 c =
    refuses_fails c.refused.result _ _ (rw c.new.ensures at c.refused.ensures) (whole_open (standing_of c.args.stand.now) c.args.end (held_items c.args.held.items.items c.args.held.run) (stacked c.args.held.opens.items []) (let a = c.args.held.opens.ok.0 in let b = stacked_length c.args.held.opens.items in omega (arith, a, b, c.len.ensures, c.if-len-gt0.true)))
