use Rattle.tagset_tool.proofs.Reported.{unnamed}
use Rattle.tagset_tool.proofs.commands.compare.compare_from.Goals as goal

pub returns-in-None : goal.returns-in-None
returns-in-None c = unnamed c.args.first.now c.args.root.now c.count.ensures.kept (rw c.in-None.is at c.in_ok-from_text.ensures)
