use Rattle.std.proofs.Common.{sym}
use Rattle.module_reader.specs.Frames.{left_of}
use Rattle.module_reader.proofs.Works.{open_left, refuses_turn}
use Rattle.module_reader.proofs.steps.finish_text.Goals as goal

pub returns-in-Some-clause-turns : goal.returns-in-Some-clause-turns
unfolding left_of
returns-in-Some-clause-turns c = λ source.
    let w = c.args.work.now in
    refuses_turn source w w c.not_ended.result _ c.not_ended.ensures (open_left source w.state w.names w.frame w.waiting.items c.requires.over c.in-Some.start.now (sym (rw c.deref.ensures.value at c.in-Some.ensures.value)))
