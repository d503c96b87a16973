use Rattle.pe_expansion.proofs.Judging.{closes_longer, closes_single}
use Rattle.pe_expansion.proofs.stack.closes.Goals as goal

pub returns-then-len-gt1 : goal.returns-then-len-gt1
returns-then-len-gt1 c =
    closes_longer c.args.manner c.args.text.now c.args.at c.args.len c.index-text-at.result c.index-text-at-then-len-gt1.result c.requires.within.1 c.requires.piece c.if-len-gt1.true c.index-text-at.is c.index-text-at-then-len-gt1.is

pub returns-else-len-gt1 : goal.returns-else-len-gt1
returns-else-len-gt1 c = closes_single c.args.manner c.args.text.now c.args.at c.args.len c.requires.piece c.if-len-gt1.false
