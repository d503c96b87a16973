use Rattle.bound_checker.proofs.Placing.{checks_none}
use Rattle.bound_checker.proofs.check.check_tables.Goals as goal

pub returns-in-None : goal.returns-in-None
returns-in-None c =
    checks_none c.args.first.now c.args.second.now c.args.tables.now c.first_broken.result c.count.ensures.kept c.count-2.ensures.kept c.first_broken.ensures c.in-None.is
