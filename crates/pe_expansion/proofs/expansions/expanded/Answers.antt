use Rattle.std.proofs.Common.{◌∙◌}
use Rattle.pe_expansion.proofs.Numbering.{done_rises}
use Rattle.pe_expansion.proofs.expansions.expanded.Goals as goal

pub returns-clause-rises : goal.returns-clause-rises
returns-clause-rises c =
    done_rises c.args.bound.now c.args.chain.now c.args.text.now c.args.manner c.args.budget.now.spent c.new-paused.result c.in-Ok-Done.text c.in-Ok-Done.spent c.new-paused.ensures.of.0 c.new-paused.ensures.of.1 (rw c.in-Ok-Done.field-0-is at c.in-Ok-Done.ensures)
