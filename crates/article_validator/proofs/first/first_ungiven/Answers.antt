use Rattle.std.proofs.Common.{◌∙◌, sym}
use Rattle.attlist_merge.proofs.Turns.{some_found, some_next}
use Rattle.article_validator.specs.First.{ungiven}
use Rattle.article_validator.proofs.first.first_ungiven.Goals as goal

pub returns-in-Some : goal.returns-in-Some
returns-in-Some c = sym (some_found (ungiven c.args.atts.now) c.args.list.now c.loop-at.at c.in-Some.name (sym (rw c.in_ok-specified.ensures at c.in_ok-name.ensures) ∙ c.in-Some.is) c.loop-at.invariant)

pub loop-at-preserved : goal.loop-at-preserved
loop-at-preserved c = some_next (ungiven c.args.atts.now) c.args.list.now c.loop-at.at (sym (rw c.in_ok-specified.ensures at c.in_ok-name.ensures) ∙ c.in-None.is) c.loop-at.invariant
