use Rattle.std.proofs.Common.{length, ◌∙◌, ap}
use Rattle.decl_set.specs.Steps.{steps_in}
use Rattle.comparison_tables.specs.Copies as spec
use Rattle.comparison_tables.specs.Holding.{known_in}
use Rattle.comparison_tables.proofs.Picked.{wrong_even, wrong_odd, wrong_none}
use Rattle.comparison_tables.proofs.held.Held.wrong_step.Goals as goal

pub returns-in-None : goal.returns-in-None
returns-in-None c =
    let first = c.args.self.now.first.now in
    wrong_none first (known_in c.args.self.now) (length first.elements) (steps_in first c.args.self.now.automaton.now c.args.i) c.args.k c.in-None.ensures.value

pub returns-then-k-eq0 : goal.returns-then-k-eq0
returns-then-k-eq0 c =
    let first = c.args.self.now.first.now in
    wrong_even first (known_in c.args.self.now) (length first.elements) (steps_in first c.args.self.now.automaton.now c.args.i) c.args.k
    c.in-Some.step c.to_copy.result c.in-Some.ensures.value c.if-k-eq0.true (c.to_copy.ensures ∙ ap (λ n. spec.to_copy n c.in-Some.step) c.count.ensures.value)

pub returns-else-k-eq0 : goal.returns-else-k-eq0
returns-else-k-eq0 c =
    let first = c.args.self.now.first.now in
    wrong_odd first (known_in c.args.self.now) (length first.elements) (steps_in first c.args.self.now.automaton.now c.args.i) c.args.k
    c.in-Some.step c.to_wrong.result c.in-Some.ensures.value c.if-k-eq0.false (c.to_wrong.ensures ∙ ap (λ n. spec.to_wrong n c.in-Some.step) c.states.ensures.states)
