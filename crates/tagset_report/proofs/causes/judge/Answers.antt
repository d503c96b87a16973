use Rattle.std.proofs.Common.{sym}
use Rattle.tagset_report.proofs.Judging.{judged_content, judged_odd, judged_fault}
use Rattle.tagset_report.proofs.causes.judge.Goals as goal

pub returns-in-Err : goal.returns-in-Err
returns-in-Err c =
    judged_fault c.args.first.now c.args.second.now c.args.name.now c.args.automaton.now c.args.left c.requires.declared c.args.live.now c.requires.live c.in-Some.other.now (sym c.in-Some.ensures)
    c.in-Err.fault c.in-Err.ensures

pub returns-then-compared : goal.returns-then-compared
returns-then-compared c =
    judged_content c.args.first.now c.args.second.now c.args.name.now c.args.automaton.now c.args.left c.requires.declared c.args.live.now c.requires.live c.in-Some.other.now (sym c.in-Some.ensures)
    c.in-Ok.compared c.in-Ok.ensures c.if-compared.true

pub returns-in_ok-cause-in-Ok : goal.returns-in_ok-cause-in-Ok
returns-in_ok-cause-in-Ok c =
    judged_odd c.args.first.now c.args.second.now c.args.name.now c.args.automaton.now c.args.left c.requires.declared c.args.live.now c.requires.live c.in-Some.other.now (sym c.in-Some.ensures)
    c.in-Ok.compared c.in_ok-cause-in-Ok.cause c.in-Ok.ensures c.if-compared.false c.in_ok-cause-in-Ok.ensures
