use Rattle.std.proofs.Common.{arith, ◌≡◌, ◌+◌, ◌<◌, length, ap}
use Rattle.least_trees.proofs.Origins.{inner-mono}
use Rattle.least_trees.proofs.gather.gather_states.Goals as goal

pub gather_state-requires-clause-room : goal.gather_state-requires-clause-room
gather_state-requires-clause-room g c =
    let plan = g.G.StepGraph.plan c.args.graph.now in
    let lt : c.loop-state.state < plan.states c.args.e = omega (arith, c.states-states.ensures) in
    let q : length ((g.G.StepGraph.plan c.loop-state.graph).numbers.steps c.args.e c.loop-state.state) ≡ length (plan.numbers.steps c.args.e c.loop-state.state) =
    ap (λ p. length (p.numbers.steps c.args.e c.loop-state.state)) c.loop-state.invariant.same in
    omega (arith, q, inner-mono plan c.args.e c.loop-state.state (plan.states c.args.e) lt, c.loop-state.invariant.looks, c.requires.room)

pub returns-in_err-gather_state-clause-looks : goal.returns-in_err-gather_state-clause-looks
returns-in_err-gather_state-clause-looks g c =
    let plan = g.G.StepGraph.plan c.args.graph.now in
    let lt : c.loop-state.state < plan.states c.args.e = omega (arith, c.states-states.ensures) in
    let q : length ((g.G.StepGraph.plan c.loop-state.graph).numbers.steps c.args.e c.loop-state.state) ≡ length (plan.numbers.steps c.args.e c.loop-state.state) =
    ap (λ p. length (p.numbers.steps c.args.e c.loop-state.state)) c.loop-state.invariant.same in
    omega (arith, q, inner-mono plan c.args.e c.loop-state.state (plan.states c.args.e) lt, c.loop-state.invariant.looks, c.gather_state.ensures.looks)
