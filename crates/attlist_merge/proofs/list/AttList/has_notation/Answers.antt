use Rattle.std.proofs.Common.{◌∙◌, sym}
use Rattle.attlist_merge.specs.Lists.{is_notation_entry}
use Rattle.attlist_merge.proofs.Turns.{any_found, any_next}
use Rattle.attlist_merge.proofs.list.AttList.has_notation.Goals as goal

pub returns-then-is_notation_at : goal.returns-then-is_notation_at
returns-then-is_notation_at c = sym (any_found is_notation_entry c.args.self.now c.loop-at.at (sym c.is_notation_at.ensures ∙ c.if-is_notation_at.true) c.loop-at.invariant)

pub loop-at-preserved : goal.loop-at-preserved
loop-at-preserved c = any_next is_notation_entry c.args.self.now c.loop-at.at (sym c.is_notation_at.ensures ∙ c.if-is_notation_at.false) c.loop-at.invariant
