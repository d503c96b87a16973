use Rattle.std.proofs.Common.{sym}
use Rattle.dtd_flattener.proofs.Appended.{proper_in}
use Rattle.dtd_flattener.proofs.writing.put_declared.Goals as goal

pub put_element-requires : goal.put_element-requires
put_element-requires c = proper_in c.args.set.now c.args.name.now c.in-Some.content.now c.requires (sym c.in-Some.ensures)
