use Rattle.std.proofs.Common.{arith}
use Rattle.module_reader.specs.Frames.{IsSound, current, left_of, size_of, waiting}
use Rattle.module_reader.proofs.Left.{passed_left}
use Rattle.module_reader.proofs.steps.skip.Goals as goal

pub returns-clause-steps : goal.returns-clause-steps
unfolding left_of
returns-clause-steps c = λ source.
    let w = c.args.work.now in
    passed_left source (waiting w) (current w) w.state c.args.kind c.args.next c.requires.passed c.requires.stands

pub returns-clause-advances : goal.returns-clause-advances
unfolding IsSound size_of
returns-clause-advances c = (c.requires.sound, omega (arith, c.requires.stands.some, c.requires.stands.within))
