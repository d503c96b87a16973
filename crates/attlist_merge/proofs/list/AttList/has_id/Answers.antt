use Rattle.std.proofs.Common.{◌∙◌, sym}
use Rattle.attlist_merge.specs.Lists.{is_id_entry}
use Rattle.attlist_merge.proofs.Turns.{any_found, any_next}
use Rattle.attlist_merge.proofs.list.AttList.has_id.Goals as goal

pub returns-then-is_id_at : goal.returns-then-is_id_at
returns-then-is_id_at c = sym (any_found is_id_entry c.args.self.now c.loop-at.at (sym c.is_id_at.ensures ∙ c.if-is_id_at.true) c.loop-at.invariant)

pub loop-at-preserved : goal.loop-at-preserved
loop-at-preserved c = any_next is_id_entry c.args.self.now c.loop-at.at (sym c.is_id_at.ensures ∙ c.if-is_id_at.false) c.loop-at.invariant
