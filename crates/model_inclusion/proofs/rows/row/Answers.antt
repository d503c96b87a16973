use Rattle.model_inclusion.proofs.Numbers.{few, told_row_result, asked_row_result, tells}
use Rattle.model_inclusion.proofs.rows.row.Goals as goal

pub told_row-requires-clause-most : goal.told_row-requires-clause-most
told_row-requires-clause-most c = few c.args.automaton.now c.args.most c.args.state c.requires.most c.requires.state

pub returns-then-most-eq0 : goal.returns-then-most-eq0
returns-then-most-eq0 c = asked_row_result c.args.live.now c.args.automaton.now c.args.state c.asked_row.result c.states.ensures.deterministic c.asked_row.ensures

pub returns-else-most-eq0 : goal.returns-else-most-eq0
returns-else-most-eq0 c = told_row_result c.args.live.now c.args.automaton.now c.args.state c.told_row.result
    (tells c.args.automaton.now c.args.most c.requires.most c.if-most-eq0.false) c.told_row.ensures
