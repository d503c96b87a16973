use Rattle.tagset_tool.proofs.Lengths.{least_undeclared}
use Rattle.tagset_tool.proofs.Reported.{unnamed}
use Rattle.tagset_tool.proofs.commands.least.least_in.Goals as goal

pub returns-in-None-clause-answer : goal.returns-in-None-clause-answer
returns-in-None-clause-answer c =
    least_undeclared c.args.set.now c.args.root.now c.args.cap c.refused.result (unnamed c.args.set.now c.args.root.now c.count.ensures.kept (rw c.in-None.is at c.in_ok-from_text.ensures))
    (rw c.in_ok-refusal-in-None.ensures at c.refused.ensures.value)
