use Rattle.std.proofs.Common.{length, ◌∙◌, ap, arith}
use Rattle.decl_set.specs.Steps.{steps_in}
use Rattle.comparison_tables.specs.Copies as spec
use Rattle.comparison_tables.specs.Holding.{known_in}
use Rattle.comparison_tables.proofs.Picked.{start_copy, start_wrong, start_pair, start_odd, start_none}
use Rattle.comparison_tables.proofs.held.Held.start_step.Goals as goal

pub returns-then-at-eq2 : goal.returns-then-at-eq2
returns-then-at-eq2 c =
    let first = c.args.self.now.first.now in
    start_pair first (known_in c.args.self.now) (length first.elements) (steps_in first c.args.self.now.automaton.now 0) c.args.k
    c.pair_step.result c.if-at-eq2.true c.pair_step.ensures

pub returns-in-None : goal.returns-in-None
returns-in-None c =
    let first = c.args.self.now.first.now in
    start_none first (known_in c.args.self.now) (length first.elements) (steps_in first c.args.self.now.automaton.now 0) c.args.k c.in-None.ensures.value

pub returns-then-at-eq0 : goal.returns-then-at-eq0
returns-then-at-eq0 c =
    let first = c.args.self.now.first.now in
    start_copy first (known_in c.args.self.now) (length first.elements) (steps_in first c.args.self.now.automaton.now 0) c.args.k
    c.in-Some.step c.to_copy.result c.in-Some.ensures.value c.if-at-eq0.true (c.to_copy.ensures ∙ ap (λ n. spec.to_copy n c.in-Some.step) c.count.ensures.value)

pub returns-then-at-eq1 : goal.returns-then-at-eq1
returns-then-at-eq1 c =
    let first = c.args.self.now.first.now in
    start_wrong first (known_in c.args.self.now) (length first.elements) (steps_in first c.args.self.now.automaton.now 0) c.args.k
    c.in-Some.step c.to_wrong.result c.in-Some.ensures.value c.if-at-eq1.true (c.to_wrong.ensures ∙ ap (λ n. spec.to_wrong n c.in-Some.step) c.states.ensures.states)

pub returns-else-at-eq1 : goal.returns-else-at-eq1
returns-else-at-eq1 c =
    let first = c.args.self.now.first.now in
    start_odd first (known_in c.args.self.now) (length first.elements) (steps_in first c.args.self.now.automaton.now 0) c.args.k
    c.in-Some.step c.to_odd.result c.in-Some.ensures.value (omega (arith, c.if-at-eq2.false, c.if-at-eq0.false, c.if-at-eq1.false)) c.to_odd.ensures
