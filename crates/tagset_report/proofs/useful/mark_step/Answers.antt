use Rattle.std.proofs.Common.{arith, length, sym, ◌∙◌}
use Rattle.tagset_report.proofs.Stepped.{both_bound}
use Rattle.tagset_report.proofs.useful.mark_step.Goals as goal

pub number_of_state-after-requires : goal.number_of_state-after-requires
number_of_state-after-requires c =
    let b = both_bound c.args.rows.now c.args.e c.args.step c.in-Some.x (length c.args.seen.now.items) c.in-Some.is (sym c.has_documents.ensures ∙ c.if-has_documents.true)
    (sym c.leads_on.ensures ∙ c.if-leads_on.true) c.requires in
    omega (arith, b.0, c.args.seen.now.ok, c.args.seen.now.small)

pub number_of_state-start-requires : goal.number_of_state-start-requires
number_of_state-start-requires c =
    let b = both_bound c.args.rows.now c.args.e c.args.step c.in-Some.x (length c.args.seen.now.items) c.in-Some.is (sym c.has_documents.ensures ∙ c.if-has_documents.true)
    (sym c.leads_on.ensures ∙ c.if-leads_on.true) c.requires in
    omega (arith, b.1, c.args.seen.now.ok, c.args.seen.now.small)

pub mark_both-requires-clause-one : goal.mark_both-requires-clause-one
mark_both-requires-clause-one c =
    let b = both_bound c.args.rows.now c.args.e c.args.step c.in-Some.x (length c.args.seen.now.items) c.in-Some.is (sym c.has_documents.ensures ∙ c.if-has_documents.true)
    (sym c.leads_on.ensures ∙ c.if-leads_on.true) c.requires in
    omega (arith, b.0, c.number_of_state-after.ensures)

pub mark_both-requires-clause-other : goal.mark_both-requires-clause-other
mark_both-requires-clause-other c =
    let b = both_bound c.args.rows.now c.args.e c.args.step c.in-Some.x (length c.args.seen.now.items) c.in-Some.is (sym c.has_documents.ensures ∙ c.if-has_documents.true)
    (sym c.leads_on.ensures ∙ c.if-leads_on.true) c.requires in
    omega (arith, b.1, c.number_of_state-start.ensures)
