use Rattle.std.proofs.Common.{arith}
use Rattle.decl_set.specs.ValueFrames.{left_of, size_of}
use Rattle.decl_set.proofs.ValueWorks.{put_left}
use Rattle.decl_set.proofs.value_stack.put.Goals as goal

pub returns : goal.returns
unfolding left_of size_of
returns c = λ entities chain.
    let w = c.args.work.now in
    (put_left entities chain w.frames.items w.text.now w.at _ c.args.c c.args.len c.push.new.self c.requires.within.1 c.requires.within.0 c.requires.piece c.in_ok-push.ensures.ok, omega arith)
