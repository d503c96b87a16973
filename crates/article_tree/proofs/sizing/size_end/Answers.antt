use Rattle.std.proofs.Common.{arith}
use Rattle.article_tree.specs.Sizes.{total_of, steps_of}
use Rattle.article_tree.proofs.Appended.{none_waits}
use Rattle.article_tree.proofs.Sized.{all_counted, end_on}
use Rattle.article_tree.proofs.sizing.size_end.Goals as goal

pub returns-in-Some-clause-ends : goal.returns-in-Some-clause-ends
unfolding total_of steps_of
returns-in-Some-clause-ends c =
    let w = c.args.work.now in
    end_on w.total c.count_end-work.result w.items.now c.pop.new.self.items w.waiting.items c.in-Some.waiting c.requires c.in-Some.ensures.items c.count_end-work.ensures

pub returns-in-None-clause-all : goal.returns-in-None-clause-all
unfolding total_of
returns-in-None-clause-all c =
    let w = c.args.work.now in
    all_counted w.total w.items.now w.waiting.items c.requires (none_waits w.waiting.items (omega (arith, w.waiting.ok.0, c.in-None.ensures.cases.0))) (omega arith)
