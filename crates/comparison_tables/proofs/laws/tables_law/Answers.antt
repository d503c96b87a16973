use Rattle.comparison_tables.proofs.TheTables.{one_tables, tables_are_accepted, tables_are_short}
use Rattle.comparison_tables.proofs.laws.tables_law.Goals as goal

pub returns-clause-one : goal.returns-clause-one
returns-clause-one c = one_tables

pub returns-clause-accepted : goal.returns-clause-accepted
returns-clause-accepted c = tables_are_accepted

pub returns-clause-short : goal.returns-clause-short
returns-clause-short c = tables_are_short
