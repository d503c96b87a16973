use Rattle.std.proofs.Common.{◌∙◌, sym}
use Rattle.attlist_merge.specs.Oddness.{odd_missing}
use Rattle.attlist_merge.proofs.Turns.{some_found, some_next}
use Rattle.attlist_merge.proofs.odd.first_odd_missing.Goals as goal

pub returns-in-Some : goal.returns-in-Some
returns-in-Some c = sym (some_found (odd_missing c.args.first.now) c.args.second.now c.loop-at.at c.in-Some.odd (sym c.in_ok-odd.ensures ∙ c.in-Some.is) c.loop-at.invariant)

pub loop-at-preserved : goal.loop-at-preserved
loop-at-preserved c = some_next (odd_missing c.args.first.now) c.args.second.now c.loop-at.at (sym c.in_ok-odd.ensures ∙ c.in-None.is) c.loop-at.invariant
