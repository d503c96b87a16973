use Rattle.std.proofs.Common.{arith}
use Rattle.bound_checker.specs.Holding.{costs_in}
use Rattle.bound_checker.specs.Tests.{on_pair}
use Rattle.bound_checker.proofs.Firsts.{flats_found, flats_next, flat_end}
use Rattle.bound_checker.proofs.check.on_pairs.Goals as goal

pub returns-in-Some : goal.returns-in-Some
returns-in-Some c =
    flats_found (on_pair c.args.held.now.first.now c.args.held.now.second.now c.args.held.now.tables.now.cap (costs_in c.args.held.now) c.args.held.now.place c.args.held.now.name.now c.args.held.now.automaton.now c.args.other.now)
    c.args.held.now.row.now.pairs c.loop-at.at c.at_pair.result c.in-Some.broken c.at_pair.ensures c.in-Some.is c.loop-at.invariant

pub loop-at-preserved : goal.loop-at-preserved
loop-at-preserved c =
    flats_next (on_pair c.args.held.now.first.now c.args.held.now.second.now c.args.held.now.tables.now.cap (costs_in c.args.held.now) c.args.held.now.place c.args.held.now.name.now c.args.held.now.automaton.now c.args.other.now)
    c.args.held.now.row.now.pairs c.loop-at.at c.at_pair.result c.at_pair.ensures c.in-None.is c.loop-at.invariant

pub returns : goal.returns
returns c =
    flat_end (on_pair c.args.held.now.first.now c.args.held.now.second.now c.args.held.now.tables.now.cap (costs_in c.args.held.now) c.args.held.now.place c.args.held.now.name.now c.args.held.now.automaton.now c.args.other.now)
    c.args.held.now.row.now.pairs c.loop-at.at (let n = c.len-at-end.ensures in omega (arith, n, c.loop-at-test.false)) c.loop-at.invariant
