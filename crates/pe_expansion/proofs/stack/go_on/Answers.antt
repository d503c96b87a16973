use Rattle.std.proofs.Common.{arith}
use Rattle.std.proofs.lemmas.List.{append-nil}
use Rattle.pe_expansion.specs.Frames.{left_of, size_of}
use Rattle.pe_expansion.specs.Nesting.{Judges}
use Rattle.pe_expansion.proofs.Numbering.{numbered_pop}
use Rattle.pe_expansion.proofs.Judging.{ended_judged, ends_judged, done_judged}
use Rattle.pe_expansion.proofs.Works.{ends_left, ends_fault, ends_size, ends_all}
use Rattle.pe_expansion.proofs.stack.go_on.Goals as goal

pub returns-in-None-clause-goes_on : goal.returns-in-None-clause-goes_on
unfolding left_of
returns-in-None-clause-goes_on c = λ bound chain.
    let w = c.args.work.now in
    ends_all c.args.manner bound chain w.text.now w.at _ w.frames.items c.requires.ends (omega (arith, w.frames.ok.0, c.in-None.ensures.cases.0))

pub returns-in-Err-clause-goes_on : goal.returns-in-Err-clause-goes_on
unfolding left_of
returns-in-Err-clause-goes_on c = λ bound chain.
    let w = c.args.work.now in
    ends_fault c.args.manner bound chain c.pop.new.self.items c.in-Some.frame w.text.now w.at _ w.frames.items c.in-Err.fault c.requires.ends c.in-Some.ensures.items (c.in-Err.ensures.closes w.spent)

pub returns-in-Ok-clause-goes_on : goal.returns-in-Ok-clause-goes_on
unfolding left_of size_of
returns-in-Ok-clause-goes_on c = λ bound chain.
    let w = c.args.work.now in (
      ends_left c.args.manner bound chain c.pop.new.self.items c.in-Some.frame w.text.now w.at _ _ w.frames.items c.requires.ends c.in-Some.ensures.items (c.in-Ok.ensures.closes w.spent),
      ends_size c.pop.new.self.items c.in-Some.frame w.text.now w.at w.spent w.frames.items c.requires.ends c.in-Some.ensures.items,
    )

pub close-requires : goal.close-requires
unfolding Judges
close-requires c =
    let w = c.args.work.now in
    ended_judged c.args.manner w.broken c.pop.new.self.items c.in-Some.frame w.text.now w.at w.written w.frames.items c.requires.ends c.in-Some.ensures.items c.requires.judges

pub returns-in-Ok-clause-judges : goal.returns-in-Ok-clause-judges
unfolding Judges
returns-in-Ok-clause-judges c =
    let w = c.args.work.now in
    ends_judged c.args.manner w.broken c.pop.new.self.items c.in-Some.frame _ _ w.written w.spent _ w.frames.items c.in-Some.ensures.items (c.in-Ok.ensures.closes w.spent) c.requires.judges

pub returns-in-None-clause-judges : goal.returns-in-None-clause-judges
unfolding Judges
returns-in-None-clause-judges c =
    let w = c.args.work.now in
    done_judged c.args.manner w.broken _ w.written w.frames.items c.pop.new.self.items c.in-None.ensures.items c.requires.judges

pub returns-in-Ok-clause-numbers : goal.returns-in-Ok-clause-numbers
returns-in-Ok-clause-numbers c = λ bound outer numbered.
    numbered_pop bound outer c.args.work.now.text.now c.pop.new.self.items c.in-Some.frame (rw c.in-Some.ensures.items at numbered)

pub returns-in-None-clause-numbers : goal.returns-in-None-clause-numbers
returns-in-None-clause-numbers c = λ bound outer numbered. rw (c.in-None.ensures.items, append-nil c.pop.new.self.items) at numbered
