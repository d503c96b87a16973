use Rattle.std.proofs.Common.{arith}
use Rattle.std.specs.List.{range_with_len}
use Rattle.position_automata.specs.Automata.{states}
use Rattle.bound_checker.specs.Holding.{costs_in}
use Rattle.bound_checker.specs.Tests.{on_state}
use Rattle.bound_checker.proofs.Firsts.{flat_found, flat_next, flat_end, ranged, ranged_end}
use Rattle.bound_checker.proofs.check.on_states.Goals as goal

pub returns-in-Some : goal.returns-in-Some
returns-in-Some c =
    let n = c.states-state-end.ensures.states in
    flat_found (on_state c.args.held.now.first.now c.args.held.now.second.now c.args.held.now.tables.now.cap (costs_in c.args.held.now) c.args.held.now.place c.args.held.now.name.now c.args.held.now.automaton.now)
    (range_with_len 0 (states c.args.held.now.automaton.now)) c.loop-state.state c.loop-state.state c.on_state.result c.in-Some.broken
    (ranged (states c.args.held.now.automaton.now) c.loop-state.state (omega (arith, n, c.loop-state-test.true))) c.on_state.ensures c.in-Some.is c.loop-state.invariant

pub loop-state-preserved : goal.loop-state-preserved
loop-state-preserved c =
    let n = c.states-state-end.ensures.states in
    flat_next (on_state c.args.held.now.first.now c.args.held.now.second.now c.args.held.now.tables.now.cap (costs_in c.args.held.now) c.args.held.now.place c.args.held.now.name.now c.args.held.now.automaton.now)
    (range_with_len 0 (states c.args.held.now.automaton.now)) c.loop-state.state c.loop-state.state c.on_state.result
    (ranged (states c.args.held.now.automaton.now) c.loop-state.state (omega (arith, n, c.loop-state-test.true))) c.on_state.ensures c.in-None.is c.loop-state.invariant

pub returns : goal.returns
returns c =
    let n = c.states-state-end.ensures.states in
    flat_end (on_state c.args.held.now.first.now c.args.held.now.second.now c.args.held.now.tables.now.cap (costs_in c.args.held.now) c.args.held.now.place c.args.held.now.name.now c.args.held.now.automaton.now)
    (range_with_len 0 (states c.args.held.now.automaton.now)) c.loop-state.state
    (ranged_end (states c.args.held.now.automaton.now) c.loop-state.state (omega (arith, n, c.loop-state-test.false))) c.loop-state.invariant
