use Rattle.tagset_tool.proofs.Reported.{compare_stopped, root_bound, verdict_told}
use Rattle.tagset_tool.proofs.commands.compare.compared.Goals as goal

pub verdict_answer-requires : goal.verdict_answer-requires
verdict_answer-requires c = root_bound c.args.first.now c.args.second.now c.args.root.now c.args.cap c.in-Ok.verdict c.count.ensures.kept c.count-2.ensures.kept c.in-Ok.ensures

pub returns-in-Ok-clause-answer : goal.returns-in-Ok-clause-answer
returns-in-Ok-clause-answer c =
    verdict_told c.args.first.now c.args.second.now c.args.root.now c.args.cap c.in-Ok.verdict c.verdict_answer.result c.in-Ok.ensures c.verdict_answer.ensures.fits

pub returns-in-Err-clause-answer : goal.returns-in-Err-clause-answer
returns-in-Err-clause-answer c =
    compare_stopped c.args.first.now c.args.second.now c.args.root.now c.args.cap c.in-Err.fault c.uncompared.result c.in-Err.ensures c.uncompared.ensures.refuses
