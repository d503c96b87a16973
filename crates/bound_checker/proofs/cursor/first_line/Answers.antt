use Rattle.std.proofs.Common.{sym, ◌∙◌}
use Rattle.bound_checker.proofs.Cutting.{cut_some, cut_none}
use Rattle.bound_checker.proofs.cursor.first_line.Goals as goal

pub returns-in-Some-clause-line : goal.returns-in-Some-clause-line
returns-in-Some-clause-line c = cut_some c.args.text.now c.in-Some.at (sym c.in-Some.is ∙ c.feed_in.ensures.value)

pub returns-in-None-clause-line : goal.returns-in-None-clause-line
returns-in-None-clause-line c = cut_none c.args.text.now c.requires (sym c.in-None.is ∙ c.feed_in.ensures.value)
