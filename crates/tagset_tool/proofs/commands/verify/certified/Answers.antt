use Rattle.bound_checker.specs.Lines.{lines_of}
use Rattle.bound_checker.proofs.Certified.{read_fits}
use Rattle.tagset_tool.proofs.commands.verify.certified.Goals as goal

pub checked-requires : goal.checked-requires
checked-requires c = read_fits c.args.first.now c.args.second.now (lines_of c.args.text.now) c.in-Ok.tables c.in-Ok.ensures
