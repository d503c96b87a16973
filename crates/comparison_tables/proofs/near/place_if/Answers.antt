use Rattle.std.proofs.Common.{ℕ, Some, ap, sym, ◌==◌, ◌∙◌}
use Rattle.std.proofs.lemmas.Bool.{eq-eqb, and_from}
use Rattle.std.proofs.lemmas.Option.{slice_get-get_or}
use Rattle.comparison_tables.proofs.Halves.{some_found}
use Rattle.comparison_tables.proofs.near.place_if.Goals as goal

pub returns-then-pair-j : goal.returns-then-pair-j
returns-then-pair-j c =
    let told = c.in-Some.ensures.lookup in
    let pair = c.in-Some.pair.now in
    some_found c.args.pairs.now c.args.i c.args.j c.args.at pair c.requires
    (slice_get-get_or c.args.pairs.now c.args.at pair told.3.0 ∙ ap (λ (x : ℕ × ℕ). Some x) (sym told.1))
    (and_from (pair.0 == c.args.i) (pair.1 == c.args.j) (eq-eqb pair.0 c.args.i c.if-pair-i.true) (eq-eqb pair.1 c.args.j c.if-pair-j.true))
