use Rattle.std.proofs.Common.{arith, ◌≡◌, ◌≤◌, ◌+◌, ◌++◌, ◌∷◌, [], ◌<◌, length, slice_index, sym, ap, ◌∙◌}
use Rattle.least_trees.specs.Plans.{steps_in, states_in, steps_within, steps_below, states_below}
use Rattle.least_trees.specs.Spots.{base, rules_below, rules_within, top_rule}
use Rattle.least_trees.proofs.Origins.{steps-mono, below-mono, first_at, length-firsts, top_is, below_more_rules, steps_below_more, states_below_more}
use Rattle.least_trees.proofs.gather.gather.Goals as goal

pub first_at-first-requires : goal.first_at-first-requires
first_at-first-requires g c =
    let plan = g.G.StepGraph.plan c.args.graph.now in
    let n : length c.args.firsts.now ≡ plan.count = ap length c.requires.firsts ∙ length-firsts plan plan.count in
    omega (arith, n, c.count-count.ensures)

pub returns-in_err-push-clause-looks : goal.returns-in_err-push-clause-looks
unfolding steps_in states_in
returns-in_err-push-clause-looks g c =
    let plan = g.G.StepGraph.plan c.args.graph.now in
    let lt : c.loop-e.e < plan.count = omega (arith, c.count-count.ensures) in
    omega (arith, steps-mono plan c.loop-e.e plan.count lt, below-mono plan c.loop-e.e plan.count lt, c.loop-e.invariant.looks)

pub gather_states-requires-clause-first : goal.gather_states-requires-clause-first
gather_states-requires-clause-first g c =
    let plan = g.G.StepGraph.plan c.args.graph.now in
    let lt : c.loop-e.e < plan.count = omega (arith, c.count-count.ensures) in
    c.first_at-first.ensures ∙ ap (λ z. slice_index z c.loop-e.e) c.requires.firsts ∙ first_at plan plan.count c.loop-e.e lt ∙ ap (λ p. base p c.loop-e.e) (sym c.loop-e.invariant.same)

pub gather_states-requires-clause-small : goal.gather_states-requires-clause-small
gather_states-requires-clause-small g c =
    let plan = g.G.StepGraph.plan c.args.graph.now in
    let lt : c.loop-e.e < plan.count = omega (arith, c.count-count.ensures) in
    let q : c.first_at-first.result ≡ base plan c.loop-e.e = c.first_at-first.ensures ∙ ap (λ z. slice_index z c.loop-e.e) c.requires.firsts ∙ first_at plan plan.count c.loop-e.e lt in
    let s : (g.G.StepGraph.plan c.loop-e.graph).states c.loop-e.e ≡ plan.states c.loop-e.e = ap (λ p. p.states c.loop-e.e) c.loop-e.invariant.same in
    omega (arith, q, s, below-mono plan c.loop-e.e plan.count lt, c.requires.spots, c.ranges.spots.fits)

pub gather_states-requires-clause-room : goal.gather_states-requires-clause-room
unfolding steps_in states_in
gather_states-requires-clause-room g c =
    let plan = g.G.StepGraph.plan c.args.graph.now in
    let e = c.loop-e.e in
    let lt : e < plan.count = omega (arith, c.count-count.ensures) in
    let s : (g.G.StepGraph.plan c.loop-e.graph).states e ≡ plan.states e = ap (λ p. p.states e) c.loop-e.invariant.same in
    let t : steps_within (g.G.StepGraph.plan c.loop-e.graph) e ((g.G.StepGraph.plan c.loop-e.graph).states e) ≡ steps_within plan e (plan.states e) =
    ap (λ p. steps_within p e (p.states e)) c.loop-e.invariant.same in
    omega (arith, s, t, steps-mono plan e plan.count lt, below-mono plan e plan.count lt, c.loop-e.invariant.looks, c.requires.room)

pub returns-in_err-gather_states-clause-looks : goal.returns-in_err-gather_states-clause-looks
unfolding steps_in states_in
returns-in_err-gather_states-clause-looks g c =
    let plan = g.G.StepGraph.plan c.args.graph.now in
    let e = c.loop-e.e in
    let lt : e < plan.count = omega (arith, c.count-count.ensures) in
    let s : (g.G.StepGraph.plan c.loop-e.graph).states e ≡ plan.states e = ap (λ p. p.states e) c.loop-e.invariant.same in
    let t : steps_within (g.G.StepGraph.plan c.loop-e.graph) e ((g.G.StepGraph.plan c.loop-e.graph).states e) ≡ steps_within plan e (plan.states e) =
    ap (λ p. steps_within p e (p.states e)) c.loop-e.invariant.same in
    omega (arith, s, t, steps-mono plan e plan.count lt, below-mono plan e plan.count lt, c.loop-e.invariant.looks, c.gather_states.ensures.looks)

pub loop-e-preserved : goal.loop-e-preserved
loop-e-preserved g c =
    let plan = g.G.StepGraph.plan c.args.graph.now in
    let e = c.loop-e.e in
    let lt : e < plan.count = omega (arith, c.count-count.ensures) in
    let s : (g.G.StepGraph.plan c.loop-e.graph).states e ≡ plan.states e = ap (λ p. p.states e) c.loop-e.invariant.same in
    let t : steps_within (g.G.StepGraph.plan c.loop-e.graph) e ((g.G.StepGraph.plan c.loop-e.graph).states e) ≡ steps_within plan e (plan.states e) =
    ap (λ p. steps_within p e (p.states e)) c.loop-e.invariant.same in
    let q : c.first_at-first.result ≡ base plan e = c.first_at-first.ensures ∙ ap (λ z. slice_index z e) c.requires.firsts ∙ first_at plan plan.count e lt in
    record {
      same = c.gather_states.ensures.same ∙ c.loop-e.invariant.same;
      rules = c.in_ok-gather_states.ensures.rules
          ∙ ap (λ p. c.push.new.self.items ++ rules_within p e (p.states e)) c.loop-e.invariant.same
          ∙ ap (λ z. z ++ rules_within plan e (plan.states e)) (c.in_ok-push.ensures.items ∙ ap (λ z. z ++ record { target = c.count-count.result + e; left = e; right = c.first_at-first.result } ∷ []) c.loop-e.invariant.rules
          ∙ ap (λ z. rules_below plan e ++ z ∷ []) (top_is plan e c.count-count.result c.first_at-first.result c.count-count.ensures q))
          ∙ sym (below_more_rules plan e);
      looks = omega (arith, s, t, steps_below_more plan e, states_below_more plan e, c.loop-e.invariant.looks, c.gather_states.ensures.looks);
      sums = c.gather_states.ensures.sums ∙ c.loop-e.invariant.sums;
    }

pub returns-clause-rules : goal.returns-clause-rules
returns-clause-rules g c =
    let q : c.loop-e.e ≡ (g.G.StepGraph.plan c.args.graph.now).count = omega (arith, c.count-count.ensures) in
    c.loop-e.invariant.rules ∙ ap (rules_below (g.G.StepGraph.plan c.args.graph.now)) q

pub returns-clause-looks : goal.returns-clause-looks
unfolding steps_in states_in
returns-clause-looks g c =
    let plan = g.G.StepGraph.plan c.args.graph.now in
    let q : c.loop-e.e ≡ plan.count = omega (arith, c.count-count.ensures) in
    omega (arith, ap (steps_below plan) q, ap (states_below plan) q, c.loop-e.invariant.looks)

pub overflow_cast-first : goal.overflow_cast-first
overflow_cast-first g c =
    let plan = g.G.StepGraph.plan c.args.graph.now in
    let lt : c.loop-e.e < plan.count = omega (arith, c.count-count.ensures) in
    let q : c.first_at-first.result ≡ base plan c.loop-e.e = c.first_at-first.ensures ∙ ap (λ z. slice_index z c.loop-e.e) c.requires.firsts ∙ first_at plan plan.count c.loop-e.e lt in
    omega (arith, q, below-mono plan c.loop-e.e plan.count lt, c.requires.spots, c.requires.few)
