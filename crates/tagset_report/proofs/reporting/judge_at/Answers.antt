use Rattle.std.proofs.Common.{◌∙◌, sym}
use Rattle.tree_costs.proofs.Places.{is_at}
use Rattle.tagset_report.proofs.Gathering.{ends_told_at}
use Rattle.tagset_report.proofs.reporting.judge_at.Goals as goal

pub judge_named-requires-clause-declared : goal.judge_named-requires-clause-declared
judge_named-requires-clause-declared c =
    (is_at c.args.first.now c.count.ensures.kept c.args.e (c.in-Some.name.now, c.in-Some.automaton.now) (sym c.in-Some.ensures)).0

pub judge_named-requires-clause-ends : goal.judge_named-requires-clause-ends
judge_named-requires-clause-ends c =
    ends_told_at c.args.first.now c.args.least.now c.args.live.now c.args.e (c.in-Some.name.now, c.in-Some.automaton.now) c.as_slice.result.now
    c.count.ensures.kept c.requires.exact c.requires.live (sym c.in-Some.ensures) (c.as_slice.ensures.value ∙ c.in_ok-ends-in-Some.ensures)
