use Rattle.decl_set.specs.Declarations.{content_in}
use Rattle.bound_checker.specs.Holding.{costs_in}
use Rattle.bound_checker.specs.Tests.{on_pairs, on_top}
use Rattle.bound_checker.proofs.Firsts.{two_some, two_none}
use Rattle.bound_checker.proofs.check.after_states.Goals as goal

pub returns-in-Some : goal.returns-in-Some
returns-in-Some c =
    two_some (on_pairs c.args.held.now.first.now c.args.held.now.second.now c.args.held.now.tables.now.cap (costs_in c.args.held.now) c.args.held.now.place c.args.held.now.name.now c.args.held.now.automaton.now (content_in c.args.held.now.second.now c.args.held.now.name.now) c.args.held.now.row.now.pairs)
    (on_top c.args.held.now.first.now c.args.held.now.second.now c.args.held.now.tables.now.cap (costs_in c.args.held.now) c.args.held.now.place c.args.held.now.name.now)
    c.on_listed.result c.in-Some.broken c.on_listed.ensures c.in-Some.is

pub returns-in-None : goal.returns-in-None
returns-in-None c =
    two_none (on_pairs c.args.held.now.first.now c.args.held.now.second.now c.args.held.now.tables.now.cap (costs_in c.args.held.now) c.args.held.now.place c.args.held.now.name.now c.args.held.now.automaton.now (content_in c.args.held.now.second.now c.args.held.now.name.now) c.args.held.now.row.now.pairs)
    (on_top c.args.held.now.first.now c.args.held.now.second.now c.args.held.now.tables.now.cap (costs_in c.args.held.now) c.args.held.now.place c.args.held.now.name.now)
    c.on_listed.result c.on_top.result c.on_listed.ensures c.in-None.is c.on_top.ensures
