use Rattle.std.proofs.Common.{◌≡◌, ◌-◌, ℕ, arith, length, take, subst}
use Rattle.module_reader.specs.Frames.{IsSound, current, left_of, size_of, waiting}
use Rattle.module_reader.proofs.Left.{close_left}
use Rattle.module_reader.proofs.steps.close_section.Goals as goal

pub returns-clause-steps : goal.returns-clause-steps
unfolding left_of
returns-clause-steps c = λ source.
    let w = c.args.work.now in
    let sections = w.frame.sections in
    let e : sections.len ≡ length sections.items = omega (arith, sections.ok.0) in
    let popped : c.pop-start.new.self.items ≡ take (length sections.items - 1) sections.items = subst (λ (n : ℕ). c.pop-start.new.self.items ≡ take (n - 1) sections.items) e c.pop-start.ensures.rest in
    rw popped (close_left source (waiting w) (current w) w.state c.requires.ends c.requires.within.0)

pub returns-clause-advances : goal.returns-clause-advances
unfolding IsSound size_of
returns-clause-advances c = (c.requires.sound, omega (arith, c.requires.within.0))
