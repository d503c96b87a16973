use Rattle.std.proofs.Common.{◌∙◌, sym}
use Rattle.model_inclusion.proofs.Telling.{part_alone, part_lacking, part_rows}
use Rattle.model_inclusion.proofs.Turning.{row_is}
use Rattle.model_inclusion.proofs.parting.parts_at.Goals as goal

pub returns-then-accepts_alone-clause-value : goal.returns-then-accepts_alone-clause-value
returns-then-accepts_alone-clause-value c = part_alone _ _ (sym c.accepts_alone.ensures ∙ c.if-accepts_alone.true)

pub returns-clause-value : goal.returns-clause-value
returns-clause-value c =
    part_lacking _ _ _ (sym c.accepts_alone.ensures ∙ c.if-accepts_alone.false)
    (c.rows_part.ensures.value
    ∙ part_rows c.args.firsts.now c.args.seconds.now c.args.i c.args.j _ c.args.ends.now c.as_slice.result.now c.as_slice-2.result.now c.args.steps.now.items
    (row_is c.args.firsts.now c.args.i c.index-firsts-i.result c.as_slice.result.now c.requires.i_in c.index-firsts-i.is c.as_slice.ensures)
    (row_is c.args.seconds.now c.args.j c.index-seconds-j.result c.as_slice-2.result.now c.requires.j_in c.index-seconds-j.is c.as_slice-2.ensures)
    c.requires.none)
