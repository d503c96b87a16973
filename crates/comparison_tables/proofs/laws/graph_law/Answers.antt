use Rattle.comparison_tables.proofs.Carried.{numbers_stand, costs_are_carried}
use Rattle.comparison_tables.proofs.laws.graph_law.Goals as goal

pub returns-clause-stands : goal.returns-clause-stands
returns-clause-stands c = numbers_stand

pub returns-clause-carried : goal.returns-clause-carried
returns-clause-carried c = costs_are_carried
