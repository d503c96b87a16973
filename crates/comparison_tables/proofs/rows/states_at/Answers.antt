use Rattle.std.proofs.Common.{arith, sym}
use Rattle.comparison_tables.proofs.Bounds.{few_at}
use Rattle.comparison_tables.proofs.rows.states_at.Goals as goal

pub returns-in-Some-clause-few : goal.returns-in-Some-clause-few
returns-in-Some-clause-few c =
    let few = few_at c.args.first.now c.count.ensures.kept c.args.place c.in-Some.name.now c.in-Some.automaton.now (sym c.in-Some.ensures) in
    omega (arith, few, c.states.ensures.states)
