use Rattle.std.proofs.Common.{Some, ap, sym, ◌∙◌}
use Rattle.std.proofs.lemmas.Option.{slice_get-get_or}
use Rattle.bound_checker.specs.declared.tables.PairRow.{PairRow}
use Rattle.bound_checker.proofs.Halves.{some_found}
use Rattle.bound_checker.proofs.near.cost_if.Goals as goal

pub returns-then-pair-j : goal.returns-then-pair-j
returns-then-pair-j c =
    let told = c.in-Some.ensures.lookup in
    some_found c.args.pairs.now c.args.i c.args.j c.args.at c.in-Some.pair.now c.requires
    (slice_get-get_or c.args.pairs.now c.args.at c.in-Some.pair.now told.3.0 ∙ ap (λ (x : PairRow). Some x) (sym told.1))
    (ap (λ i. (i, c.in-Some.pair.now.j)) c.if-pair-i.true ∙ ap (λ j. (c.args.i, j)) c.if-pair-j.true)
