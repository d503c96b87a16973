use Rattle.std.proofs.Common.{arith, ◌<◌, length, sym, ◌∙◌}
use Rattle.tagset_report.specs.Useful.{number_at}
use Rattle.tagset_report.proofs.Stepped.{root_bound}
use Rattle.tagset_report.proofs.useful.mark_root.Goals as goal

pub number_of_state-requires : goal.number_of_state-requires
number_of_state-requires c =
    let b : number_at c.in-Some.x 0 < length c.args.seen.now.items =
    root_bound c.args.rows.now c.args.root c.in-Some.x (length c.args.seen.now.items) c.in-Some.is (sym c.has_documents.ensures ∙ c.if-has_documents.true) c.requires in
    omega (arith, b, c.args.seen.now.ok, c.args.seen.now.small)

pub mark-requires : goal.mark-requires
mark-requires c =
    let b : number_at c.in-Some.x 0 < length c.args.seen.now.items =
    root_bound c.args.rows.now c.args.root c.in-Some.x (length c.args.seen.now.items) c.in-Some.is (sym c.has_documents.ensures ∙ c.if-has_documents.true) c.requires in
    omega (arith, b, c.number_of_state.ensures)
