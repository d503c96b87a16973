use Rattle.std.proofs.Common.{arith}
use Rattle.pe_expansion.specs.Frames.{left_of, size_of}
use Rattle.pe_expansion.specs.Nesting.{Judges}
use Rattle.pe_expansion.proofs.Runs.{copy_left, copy_judged}
use Rattle.pe_expansion.proofs.stack.copy.Goals as goal

pub returns-clause-steps : goal.returns-clause-steps
unfolding left_of size_of
returns-clause-steps c = λ bound chain.
    let w = c.args.work.now in
    (copy_left c.args.manner bound chain w.frames.items w.text.now w.at _ c.args.len c.push_slice.new.self c.requires.plain c.in_ok-push_slice.ensures.ok, omega arith)

pub returns-clause-judges : goal.returns-clause-judges
unfolding Judges
returns-clause-judges c =
    let w = c.args.work.now in
    copy_judged c.args.manner w.broken w.frames.items w.text.now w.at w.written c.args.len c.push_slice.new.self c.requires.within.1 c.requires.within.0 c.requires.plain c.in_ok-push_slice.ensures.ok c.requires.judges
