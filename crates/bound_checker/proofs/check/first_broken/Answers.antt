use Rattle.std.proofs.Common.{arith}
use Rattle.bound_checker.specs.Tabled.{costs_of}
use Rattle.bound_checker.specs.Tests.{on_element, pairs_of}
use Rattle.bound_checker.proofs.Firsts.{each_found, each_next, each_end}
use Rattle.bound_checker.proofs.check.first_broken.Goals as goal

pub returns-in-Some : goal.returns-in-Some
returns-in-Some c =
    each_found (on_element c.args.first.now c.args.second.now c.args.tables.now.cap (costs_of c.args.first.now c.args.tables.now) (pairs_of c.args.first.now c.args.tables.now))
    c.args.first.now.elements c.loop-place.place c.at_element.result c.in-Some.broken c.at_element.ensures c.in-Some.is c.loop-place.invariant

pub loop-place-preserved : goal.loop-place-preserved
loop-place-preserved c =
    each_next (on_element c.args.first.now c.args.second.now c.args.tables.now.cap (costs_of c.args.first.now c.args.tables.now) (pairs_of c.args.first.now c.args.tables.now))
    c.args.first.now.elements c.loop-place.place c.at_element.result c.at_element.ensures c.in-None.is c.loop-place.invariant

pub returns : goal.returns
returns c =
    each_end (on_element c.args.first.now c.args.second.now c.args.tables.now.cap (costs_of c.args.first.now c.args.tables.now) (pairs_of c.args.first.now c.args.tables.now))
    c.args.first.now.elements c.loop-place.place (let n = c.count-place-end.ensures.value in omega (arith, n, c.loop-place-test.false)) c.loop-place.invariant
