use Rattle.std.proofs.Common.{◌∙◌, [], sym}
use Rattle.std.proofs.lemmas.Bool.{not-true, not-false}
use Rattle.attlist_merge.specs.Oddness.{odd_missing}
use Rattle.attlist_merge.proofs.Turns.{has_found, has_next}
use Rattle.attlist_merge.proofs.odd.requires_none.Goals as goal

pub returns-then-is_required_at : goal.returns-then-is_required_at
returns-then-is_required_at c = sym (has_found (odd_missing []) c.args.list.now c.loop-at.at (not-true _ (sym c.is_required_at.ensures ∙ c.if-is_required_at.true)) c.loop-at.invariant)

pub loop-at-preserved : goal.loop-at-preserved
loop-at-preserved c = has_next (odd_missing []) c.args.list.now c.loop-at.at (not-false _ (sym c.is_required_at.ensures ∙ c.if-is_required_at.false)) c.loop-at.invariant
