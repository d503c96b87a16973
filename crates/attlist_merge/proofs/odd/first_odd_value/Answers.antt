use Rattle.std.proofs.Common.{◌∙◌, sym}
use Rattle.attlist_merge.specs.Oddness.{odd_value}
use Rattle.attlist_merge.proofs.Turns.{some_found, some_next}
use Rattle.attlist_merge.proofs.odd.first_odd_value.Goals as goal

pub returns-in-Some : goal.returns-in-Some
returns-in-Some c = sym (some_found (odd_value c.args.second.now) c.args.first.now c.loop-at.at c.in-Some.odd (sym c.in_ok-odd.ensures ∙ c.in-Some.is) c.loop-at.invariant)

pub loop-at-preserved : goal.loop-at-preserved
loop-at-preserved c = some_next (odd_value c.args.second.now) c.args.first.now c.loop-at.at (sym c.in_ok-odd.ensures ∙ c.in-None.is) c.loop-at.invariant
