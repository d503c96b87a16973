use Rattle.std.proofs.Common.{Some, ap, sym, ◌∙◌}
use Rattle.std.proofs.lemmas.Option.{slice_get-get_or}
use Rattle.comparison_tables.specs.declared.entries.Entry.{Entry}
use Rattle.comparison_tables.specs.Entries.{named_in}
use Rattle.comparison_tables.proofs.Entered.{got_named, place_named, fine_named}
use Rattle.comparison_tables.proofs.copies.held_at.Goals as goal

pub returns-in-Some-clause-held : goal.returns-in-Some-clause-held
returns-in-Some-clause-held c =
    let first = c.args.first.now in
    let sides = c.args.sides.now in
    let entry = c.in-Some.entry.now in
    let told = c.in-Some.ensures.lookup in
    let named = got_named first c.args.second.now sides c.args.entries.now c.args.place entry c.requires.entries
    (slice_get-get_or c.args.entries.now c.args.place entry told.3.0 ∙ ap (λ (x : Entry). Some x) (sym told.1)) in
    record {
      first = c.count.ensures.kept;
      place = place_named c.args.second.now _ _ (named_in entry) named;
      side = fine_named c.args.second.now first.elements sides c.args.place (named_in entry) c.requires.fine named;
    }
