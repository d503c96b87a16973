use Rattle.comparison_tables.proofs.Outcomes.{tables_are, fault_is}
use Rattle.comparison_tables.proofs.tables.exact_tables.Goals as goal

pub returns-in-Err : goal.returns-in-Err
returns-in-Err c = fault_is c.args.first.now c.args.second.now c.args.root.now c.args.cap c.in-Err.fault c.in-Err.ensures

pub returns-in_ok-root-in-Ok : goal.returns-in_ok-root-in-Ok
returns-in_ok-root-in-Ok c =
    tables_are c.args.first.now c.args.second.now c.args.root.now c.args.cap c.in-Ok.sides c.in_ok-rows-in-Ok.rows c.in_ok-root-in-Ok.root c.requires.cap c.requires.root c.in-Ok.ensures
    c.in_ok-rows-in-Ok.ensures c.in_ok-root-in-Ok.ensures
