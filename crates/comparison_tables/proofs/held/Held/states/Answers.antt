use Rattle.std.proofs.Common.{arith}
use Rattle.comparison_tables.proofs.Bounds.{few_at}
use Rattle.comparison_tables.proofs.held.Held.states.Goals as goal

pub overflow_mul-result : goal.overflow_mul-result
overflow_mul-result c =
    let few = few_at c.args.self.now.first.now c.requires.first c.args.self.now.place c.args.self.now.name.now c.args.self.now.automaton.now c.requires.place in
    omega (arith, few, c.states.ensures.states)

pub overflow_add-result : goal.overflow_add-result
overflow_add-result c =
    let few = few_at c.args.self.now.first.now c.requires.first c.args.self.now.place c.args.self.now.name.now c.args.self.now.automaton.now c.requires.place in
    omega (arith, few, c.states.ensures.states)

pub overflow_add-result-2 : goal.overflow_add-result-2
overflow_add-result-2 c =
    let few = few_at c.args.self.now.first.now c.requires.first c.args.self.now.place c.args.self.now.name.now c.args.self.now.automaton.now c.requires.place in
    omega (arith, few, c.states.ensures.states, c.requires.side.1, c.len.ensures)
