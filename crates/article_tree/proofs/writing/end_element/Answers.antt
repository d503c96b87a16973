use Rattle.std.proofs.Common.{arith}
use Rattle.article_tree.specs.WritingSteps.{whole_of, steps_of}
use Rattle.article_tree.proofs.Appended.{element_left, left_steps, all_written, none_waits}
use Rattle.article_tree.proofs.writing.end_element.Goals as goal

pub returns-in_ok-put_end-in-Some-clause-ends : goal.returns-in_ok-put_end-in-Some-clause-ends
unfolding whole_of steps_of
returns-in_ok-put_end-in-Some-clause-ends c =
    let w = c.args.work.now in (
      element_left w.out c.put_end.new.out w.items.now c.pop.new.self.items w.waiting.items c.in-Some.waiting c.requires c.in-Some.ensures.items c.in_ok-put_end-in-Some.ensures,
      left_steps w.items.now c.pop.new.self.items w.waiting.items c.in-Some.waiting c.requires c.in-Some.ensures.items,
    )

pub returns-in-None-clause-all : goal.returns-in-None-clause-all
unfolding whole_of
returns-in-None-clause-all c =
    let w = c.args.work.now in
    all_written w.out w.items.now w.waiting.items c.requires (none_waits w.waiting.items (omega (arith, w.waiting.ok.0, c.in-None.ensures.cases.0)))
