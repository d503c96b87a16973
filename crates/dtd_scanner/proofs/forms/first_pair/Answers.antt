use Rattle.std.proofs.Common.{◌∙◌, sym}
use Rattle.dtd_scanner.proofs.Places.{pair_goes_on, pair_here, pair_nowhere}
use Rattle.dtd_scanner.proofs.forms.first_pair.Goals as goal

pub loop-at-preserved : goal.loop-at-preserved
loop-at-preserved c = pair_goes_on _ _ _ _ c.loop-at.auto.at c.loop-at-test.true (sym c.ends_pair.ensures ∙ c.if-ends_pair.false) c.loop-at.invariant

pub returns-then-ends_pair-clause-value : goal.returns-then-ends_pair-clause-value
returns-then-ends_pair-clause-value c = pair_here _ _ _ _ c.loop-at.auto.at c.loop-at-test.true (sym c.ends_pair.ensures ∙ c.if-ends_pair.true) c.loop-at.invariant

pub returns-clause-value : goal.returns-clause-value
returns-clause-value c = pair_nowhere _ _ _ _ c.loop-at-test.false c.loop-at.invariant
