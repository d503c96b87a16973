use Rattle.std.proofs.Common.{ap, sym, ◌∙◌}
use Rattle.std.specs.Option.{option_copied}
use Rattle.bound_checker.proofs.ByPlace.{own_cost}
use Rattle.bound_checker.proofs.check.at_pair.Goals as goal

pub on_pair-requires-clause-left : goal.on_pair-requires-clause-left
on_pair-requires-clause-left c =
    own_cost c.args.held.now.first.now c.args.held.now.tables.now c.args.held.now.name.now c.args.held.now.row.now c.args.at c.in-Some.pair.now c.requires.held.row c.requires.held.ascending
    (sym c.get.ensures.value ∙ ap option_copied c.in-Some.is)
