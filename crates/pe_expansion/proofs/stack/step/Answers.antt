use Rattle.std.proofs.Common.{sym}
use Rattle.pe_expansion.proofs.Numbering.{kept_numbers, stepped_by, wants_stays}
use Rattle.pe_expansion.specs.Frames.{left_of}
use Rattle.pe_expansion.proofs.Waiting.{left_malformed}
use Rattle.pe_expansion.proofs.stack.step.Goals as goal

pub returns-in_default-clause-steps : goal.returns-in_default-clause-steps
unfolding left_of
returns-in_default-clause-steps c =
    let w = c.args.work.now in
    left_malformed c.args.manner c.args.bound.now c.args.chain.now w.frames.items w.text.now w.at (record { text = w.written; spent = w.spent }) c.requires.within (sym c.in_default.ensures.value)

pub returns-in-Char-clause-steps : goal.returns-in-Char-clause-steps
returns-in-Char-clause-steps c = stepped_by c.args.manner c.args.bound.now c.args.chain.now c.args.work.now c.put.new.work c.put.result c.put.ensures.steps

pub returns-in-Kept-clause-steps : goal.returns-in-Kept-clause-steps
returns-in-Kept-clause-steps c = stepped_by c.args.manner c.args.bound.now c.args.chain.now c.args.work.now c.keep.new.work c.keep.result c.keep.ensures.steps

pub returns-then-plain-gt0-clause-steps : goal.returns-then-plain-gt0-clause-steps
returns-then-plain-gt0-clause-steps c = stepped_by c.args.manner c.args.bound.now c.args.chain.now c.args.work.now c.copy.new.work c.copy.result c.copy.ensures.steps

pub returns-in-Char-clause-numbers : goal.returns-in-Char-clause-numbers
returns-in-Char-clause-numbers c = kept_numbers c.args.bound.now c.args.work.now c.put.new.work c.put.result c.put.ensures.texts

pub returns-in-Char-clause-stays : goal.returns-in-Char-clause-stays
returns-in-Char-clause-stays c = wants_stays c.args.work.now c.put.new.work c.put.result c.put.ensures.wants

pub returns-in-Kept-clause-numbers : goal.returns-in-Kept-clause-numbers
returns-in-Kept-clause-numbers c = kept_numbers c.args.bound.now c.args.work.now c.keep.new.work c.keep.result c.keep.ensures.texts

pub returns-in-Kept-clause-stays : goal.returns-in-Kept-clause-stays
returns-in-Kept-clause-stays c = wants_stays c.args.work.now c.keep.new.work c.keep.result c.keep.ensures.wants

pub returns-then-plain-gt0-clause-numbers : goal.returns-then-plain-gt0-clause-numbers
returns-then-plain-gt0-clause-numbers c = kept_numbers c.args.bound.now c.args.work.now c.copy.new.work c.copy.result c.copy.ensures.texts

pub returns-then-plain-gt0-clause-stays : goal.returns-then-plain-gt0-clause-stays
returns-then-plain-gt0-clause-stays c = wants_stays c.args.work.now c.copy.new.work c.copy.result c.copy.ensures.wants
