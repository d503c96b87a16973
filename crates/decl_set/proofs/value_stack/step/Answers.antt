use Rattle.std.proofs.Common.{sym}
use Rattle.decl_set.specs.ValueFrames.{left_of}
use Rattle.decl_set.proofs.ValueWaiting.{left_malformed, left_less_than}
use Rattle.decl_set.proofs.value_stack.step.Goals as goal

pub returns-in_default : goal.returns-in_default
unfolding left_of
returns-in_default c =
    let w = c.args.work.now in
    left_malformed c.args.entities.now.entries c.args.chain.now w.frames.items w.text.now w.at (record { text = w.written; spent = w.spent }) c.requires (sym c.in_default.ensures.value)

pub returns-in-Char : goal.returns-in-Char
returns-in-Char c = c.put.ensures c.args.entities.now.entries c.args.chain.now

pub returns-in-LessThan : goal.returns-in-LessThan
unfolding left_of
returns-in-LessThan c =
    let w = c.args.work.now in
    left_less_than c.args.entities.now.entries c.args.chain.now w.frames.items w.text.now w.at (record { text = w.written; spent = w.spent }) c.in-Some.piece c.requires (sym c.in-Some.ensures.value) c.in-LessThan.is
