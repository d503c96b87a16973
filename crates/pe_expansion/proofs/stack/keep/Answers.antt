use Rattle.std.proofs.Common.{arith}
use Rattle.pe_expansion.specs.Frames.{left_of, size_of}
use Rattle.pe_expansion.specs.Nesting.{Judges}
use Rattle.pe_expansion.proofs.Judging.{keep_judged}
use Rattle.pe_expansion.proofs.Works.{keep_left}
use Rattle.pe_expansion.proofs.stack.keep.Goals as goal

pub returns-clause-steps : goal.returns-clause-steps
unfolding left_of size_of
returns-clause-steps c = λ bound chain.
    let w = c.args.work.now in
    (keep_left c.args.manner bound chain w.frames.items w.text.now w.at _ c.args.len c.push_slice.new.self c.requires.within.1 c.requires.within.0 c.requires.piece c.in_ok-push_slice.ensures.ok, omega arith)

pub returns-clause-judges : goal.returns-clause-judges
unfolding Judges
returns-clause-judges c =
    let w = c.args.work.now in
    keep_judged c.args.manner w.broken c.breaks_behind-work.result w.frames.items w.text.now w.at w.written c.args.len c.push_slice.new.self c.requires.within.1 c.requires.within.0 c.requires.piece c.in_ok-push_slice.ensures.ok c.breaks_behind-work.ensures c.requires.judges
