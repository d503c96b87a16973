use Rattle.std.proofs.Common.{arith}
use Rattle.comparison_tables.proofs.Bounds.{few_at}
use Rattle.comparison_tables.proofs.held.Held.either.Goals as goal

pub to_go-requires : goal.to_go-requires
to_go-requires c =
    let few = few_at c.args.self.now.first.now c.requires.held.first c.args.self.now.place c.args.self.now.name.now c.args.self.now.automaton.now c.requires.held.place in
    omega (arith, few, c.requires.state)

pub to_listed-requires-clause-states : goal.to_listed-requires-clause-states
to_listed-requires-clause-states c =
    let few = few_at c.args.self.now.first.now c.requires.held.first c.args.self.now.place c.args.self.now.name.now c.args.self.now.automaton.now c.requires.held.place in
    omega (arith, few, c.states.ensures.states)
