use Rattle.position_automata.specs.Stepping.{steps_of}
use Rattle.position_automata.specs.Tables.{step_names}
use Rattle.model_inclusion.proofs.Filling.{placed_more}
use Rattle.model_inclusion.proofs.rows.told_row.Goals as goal

pub loop-k-preserved : goal.loop-k-preserved
loop-k-preserved c =
    placed_more c.args.live.now (step_names c.args.automaton.now) c.args.numbers.now (steps_of c.args.automaton.now c.args.state) c.loop-k.k c.in-Some.at c.in-Some.next _ _
    c.requires.numbers c.loop-k.invariant c.in-Some.ensures.value c.in-Some.ensures.within c.in_ok-push_step-in-Some.ensures
