use Rattle.decl_set.proofs.Judging.{judged_refusal, judged_automaton}
use Rattle.decl_set.proofs.declaring.judge.Goals as goal

pub returns-in-Err : goal.returns-in-Err
returns-in-Err c = judged_refusal c.args.content.now c.in-Err.fault c.in-Err.ensures

pub returns-in-Ok : goal.returns-in-Ok
returns-in-Ok c = judged_automaton c.args.content.now c.in-Ok.automaton c.follows-follows.result c.in-Ok.ensures c.follows-follows.ensures
