use Rattle.std.proofs.Common.{◌∙◌, sym}
use Rattle.std.proofs.lemmas.Bool.{not-true, not-false}
use Rattle.attlist_merge.specs.Oddness.{odd_missing}
use Rattle.attlist_merge.proofs.Turns.{has_found, has_next}
use Rattle.attlist_merge.proofs.odd.are_required.Goals as goal

pub returns-then-is_missing_at : goal.returns-then-is_missing_at
returns-then-is_missing_at c = sym (has_found (odd_missing c.args.first.now) c.args.second.now c.loop-at.at (not-true _ (sym c.is_missing_at.ensures ∙ c.if-is_missing_at.true)) c.loop-at.invariant)

pub loop-at-preserved : goal.loop-at-preserved
loop-at-preserved c = has_next (odd_missing c.args.first.now) c.args.second.now c.loop-at.at (not-false _ (sym c.is_missing_at.ensures ∙ c.if-is_missing_at.false)) c.loop-at.invariant
