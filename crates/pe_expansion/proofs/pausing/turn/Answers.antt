use Rattle.pe_expansion.proofs.Numbering.{goes_on_turns, numbers_for, wants_stays}
use Rattle.pe_expansion.proofs.pausing.turn.Goals as goal

pub returns-else-work-clause-turns : goal.returns-else-work-clause-turns
returns-else-work-clause-turns c = goes_on_turns c.args.manner c.args.bound.now c.args.chain.now c.args.work.now c.go_on.new.work c.go_on.result c.go_on.ensures.goes_on

pub returns-else-work-clause-numbers : goal.returns-else-work-clause-numbers
returns-else-work-clause-numbers c = numbers_for c.args.bound.now c.args.work.now c.go_on.new.work c.go_on.result c.go_on.ensures.numbers

pub returns-else-work-clause-stays : goal.returns-else-work-clause-stays
returns-else-work-clause-stays c = wants_stays c.args.work.now c.go_on.new.work c.go_on.result c.go_on.ensures.wants
