use Rattle.std.proofs.Common.{◌∙◌, sym}
use Rattle.attlist_merge.specs.Oddness.{odd_value}
use Rattle.attlist_merge.proofs.Turns.{has_found, has_next}
use Rattle.attlist_merge.proofs.odd.are_covered.Goals as goal

pub returns-then-not-is_covered_at : goal.returns-then-not-is_covered_at
returns-then-not-is_covered_at c = sym (has_found (odd_value c.args.second.now) c.args.first.now c.loop-at.at (sym c.is_covered_at.ensures ∙ c.if-not-is_covered_at.true) c.loop-at.invariant)

pub loop-at-preserved : goal.loop-at-preserved
loop-at-preserved c = has_next (odd_value c.args.second.now) c.args.first.now c.loop-at.at (sym c.is_covered_at.ensures ∙ c.if-not-is_covered_at.false) c.loop-at.invariant
