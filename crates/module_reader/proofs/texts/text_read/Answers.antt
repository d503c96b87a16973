use Rattle.std.proofs.Common.{◌∙◌, sym}
use Rattle.module_reader.specs.Frames.{IsSound, found}
use Rattle.module_reader.proofs.Naming.{never_none}
use Rattle.module_reader.proofs.texts.text_read.Goals as goal

pub unreachable-requires : goal.unreachable-requires
unfolding IsSound
unreachable-requires c = never_none (λ e. e.1) (found c.args.work.now.state c.args.work.now.frame.text) c.requires.0 (c.in-None.ensures)
