use Rattle.std.proofs.Common.{arith}
use Rattle.decl_set.specs.ValueFrames.{left_of, size_of}
use Rattle.decl_set.proofs.ValueWorks.{ends_left, ends_size, ends_all}
use Rattle.decl_set.proofs.value_stack.go_on.Goals as goal

pub returns-in-None : goal.returns-in-None
unfolding left_of
returns-in-None c = λ entities chain.
    let w = c.args.work.now in
    ends_all entities chain w.text.now w.at _ w.frames.items c.requires (omega (arith, w.frames.ok.0, c.in-None.ensures.cases.0))

pub returns-in-Some : goal.returns-in-Some
unfolding left_of size_of
returns-in-Some c = λ entities chain.
    let w = c.args.work.now in (
      ends_left entities chain c.pop.new.self.items c.in-Some.frame w.text.now w.at _ w.frames.items c.requires c.in-Some.ensures.items,
      ends_size c.pop.new.self.items c.in-Some.frame w.text.now w.at w.spent w.frames.items c.requires c.in-Some.ensures.items,
    )
