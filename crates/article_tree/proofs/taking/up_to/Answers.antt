use Rattle.std.proofs.Common.{sym}
use Rattle.article_tree.proofs.Taken.{gone_on, gone_found}
use Rattle.article_tree.proofs.taking.up_to.Goals as goal

pub returns-in-Some : goal.returns-in-Some
returns-in-Some c = gone_found c.args.mark.now c.args.text.now _ c.loop-at.at c.loop-at-test.true (sym c.in-Some.ensures) c.loop-at.invariant

pub loop-at-preserved : goal.loop-at-preserved
loop-at-preserved c = gone_on c.args.mark.now c.args.text.now c.loop-at.at c.loop-at-test.true (sym c.in-None.ensures) c.loop-at.invariant
