use Rattle.comparison_tables.proofs.Bounds.{element_is, element_has}
use Rattle.comparison_tables.proofs.held.element_at.Goals as goal

pub returns-in-None-automaton_of : goal.returns-in-None-automaton_of
returns-in-None-automaton_of c =
    absurd (element_has c.args.set.now c.count.ensures.kept c.args.place c.in-Some.name.now c.in-Some.ensures c.in-None-automaton_of.ensures)

pub returns-in-Some-automaton_of : goal.returns-in-Some-automaton_of
returns-in-Some-automaton_of c =
    element_is c.args.set.now c.count.ensures.kept c.args.place c.in-Some.name.now c.in-Some-automaton_of.automaton.now c.in-Some.ensures c.in-Some-automaton_of.ensures
