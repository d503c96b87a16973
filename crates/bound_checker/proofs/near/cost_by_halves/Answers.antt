use Rattle.std.proofs.Common.{rules, Some, Ok, Err, ap, ◌∙◌}
use Rattle.std.proofs.lemmas.List.Sorted.{answers_always}
use Rattle.std.proofs.lemmas.Option.{get_or_from_slice_get}
use Rattle.tree_costs.specs.declared.cost.Cost.TheVariants.{Fin}
use Rattle.bound_checker.specs.declared.tables.PairRow.{PairRow}
use Rattle.bound_checker.specs.Tabled.{states_of}
use Rattle.bound_checker.proofs.Halves.{by_states, searched, some_found, none_found}
use Rattle.bound_checker.proofs.near.cost_by_halves.Goals as goal

abbrev none_row : PairRow
none_row = record { i = 0; j = 0; g = Fin 0 }

pub returns-in-Ok : goal.returns-in-Ok
returns-in-Ok c =
    let pairs = c.args.pairs.now in
    let found = searched states_of pairs (c.args.i, c.args.j) (Ok c.in-Ok.at) (by_states pairs c.requires) c.in-Ok.ensures.bound
    (c.in-Ok.ensures.position states_of (answers_always _ _ _ (λ f a r g called. search rules))) in
    ap (λ (x : PairRow). Some x.g) (get_or_from_slice_get pairs c.in-Ok.at found.0 none_row found.1) ∙ some_found pairs c.args.i c.args.j c.in-Ok.at found.0 c.requires found.1 found.2

pub returns-in-Err : goal.returns-in-Err
returns-in-Err c =
    let pairs = c.args.pairs.now in
    none_found pairs c.args.i c.args.j
    (searched states_of pairs (c.args.i, c.args.j) (Err c.in-Err.at) (by_states pairs c.requires) c.in-Err.ensures.bound
    (c.in-Err.ensures.position states_of (answers_always _ _ _ (λ f a r g called. search rules))))
