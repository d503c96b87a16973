use Rattle.std.proofs.Common.{arith}
use Rattle.pe_expansion.specs.Frames.{left_of, size_of}
use Rattle.pe_expansion.specs.Nesting.{Judges}
use Rattle.pe_expansion.proofs.Judging.{put_judged}
use Rattle.pe_expansion.proofs.Works.{put_left}
use Rattle.pe_expansion.proofs.stack.put.Goals as goal

pub returns-clause-steps : goal.returns-clause-steps
unfolding left_of size_of
returns-clause-steps c = λ bound chain.
    let w = c.args.work.now in
    (put_left c.args.manner bound chain w.frames.items w.text.now w.at _ c.args.c c.args.len c.push.new.self c.requires.within.1 c.requires.within.0 c.requires.piece c.in_ok-push.ensures.ok, omega arith)

pub returns-clause-judges : goal.returns-clause-judges
unfolding Judges
returns-clause-judges c =
    let w = c.args.work.now in
    put_judged c.args.manner w.broken c.breaks-work.result w.frames.items w.text.now w.at w.written c.args.c c.args.len c.push.new.self c.requires.within.1 c.requires.within.0 c.requires.piece c.in_ok-push.ensures.ok c.breaks-work.ensures c.requires.judges
