use Rattle.std.proofs.Common.{sym, ap, ◌∙◌, slice_get}
use Rattle.std.specs.Option.{option_copied}
use Rattle.decl_set.proofs.Found.{placed, has_place}
use Rattle.bound_checker.specs.Tabled.{costs_of}
use Rattle.bound_checker.specs.Tests.{on_element, pairs_of, failing}
use Rattle.bound_checker.proofs.Placing.{some_from}
use Rattle.bound_checker.proofs.Rows.{no_row, fits_at, row_is}
use Rattle.bound_checker.proofs.check.at_element.Goals as goal

pub on_element-requires : goal.on_element-requires
on_element-requires c =
    let declared = sym c.automaton_of.ensures ∙ ap option_copied c.in-Some-automaton_of.is in
    let place = placed c.args.first.now.elements c.args.place c.in-Some.name.now c.in-Some-automaton_of.automaton.now c.count.ensures.kept.elements_apart
    (sym (ap option_copied c.in-Some.is) ∙ c.name_at.ensures) declared in
    let own = sym c.get.ensures.value ∙ ap option_copied c.in-Some-get.is in
    let fits = fits_at c.args.first.now c.args.second.now c.args.tables.now c.args.place (c.in-Some.name.now, c.in-Some-automaton_of.automaton.now) c.in-Some-get.row.now c.requires place own in
    record {
      cap = c.requires.cap;
      first = c.count.ensures.kept;
      second = c.count-2.ensures.kept;
      place = place;
      declared = declared;
      row = row_is c.args.first.now c.args.tables.now c.args.place (c.in-Some.name.now, c.in-Some-automaton_of.automaton.now) c.in-Some-get.row.now c.count.ensures.kept place own;
      pairs = fits.pairs;
      ascending = fits.ascending;
    }

pub returns-in-None-automaton_of : goal.returns-in-None-automaton_of
returns-in-None-automaton_of c =
    absurd (has_place c.args.first.now.elements c.args.place c.in-Some.name.now c.count.ensures.kept.elements_apart (sym (ap option_copied c.in-Some.is) ∙ c.name_at.ensures)
    (sym c.automaton_of.ensures ∙ ap option_copied c.in-None-automaton_of.is))

pub returns-in-None-get : goal.returns-in-None-get
returns-in-None-get c =
    absurd (no_row c.args.first.now c.args.second.now c.args.tables.now c.args.place (c.in-Some.name.now, c.in-Some-automaton_of.automaton.now) c.requires
    (placed c.args.first.now.elements c.args.place c.in-Some.name.now c.in-Some-automaton_of.automaton.now c.count.ensures.kept.elements_apart
    (sym (ap option_copied c.in-Some.is) ∙ c.name_at.ensures) (sym c.automaton_of.ensures ∙ ap option_copied c.in-Some-automaton_of.is))
    (sym c.get.ensures.value ∙ ap option_copied c.in-None-get.is))

pub returns-in-Some-get : goal.returns-in-Some-get
returns-in-Some-get c =
    some_from (λ x. failing (on_element c.args.first.now c.args.second.now c.args.tables.now.cap (costs_of c.args.first.now c.args.tables.now)
    (pairs_of c.args.first.now c.args.tables.now) c.args.place x)) (slice_get c.args.first.now.elements c.args.place)
    (c.in-Some.name.now, c.in-Some-automaton_of.automaton.now) c.on_element.result
    (placed c.args.first.now.elements c.args.place c.in-Some.name.now c.in-Some-automaton_of.automaton.now c.count.ensures.kept.elements_apart
    (sym (ap option_copied c.in-Some.is) ∙ c.name_at.ensures) (sym c.automaton_of.ensures ∙ ap option_copied c.in-Some-automaton_of.is))
    c.on_element.ensures
