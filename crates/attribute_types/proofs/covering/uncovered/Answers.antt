use Rattle.attribute_types.proofs.Uncovering.{told_by, none_by}
use Rattle.attribute_types.proofs.covering.uncovered.Goals as goal

pub returns-clause-told : goal.returns-clause-told
returns-clause-told c = told_by c.args.first.now c.args.second.now c.cell.result c.requires.first c.requires.second c.cell.ensures

pub returns-clause-none : goal.returns-clause-none
returns-clause-none c = none_by c.args.first.now c.args.second.now c.cell.result c.requires.first c.requires.second c.cell.ensures
