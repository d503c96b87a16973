use Rattle.std.proofs.Common.{sym, ap, ◌∙◌, subst}
use Rattle.std.specs.Option.{option_copied}
use Rattle.decl_set.proofs.Found.{placed, has_place}
use Rattle.bound_checker.specs.Left.{Gives, read_row_at, rest_of}
use Rattle.bound_checker.specs.Lines.{lines_of}
use Rattle.bound_checker.proofs.reading.read_place.Goals as goal

pub returns-in-None-automaton_of : goal.returns-in-None-automaton_of
returns-in-None-automaton_of c =
    absurd (has_place c.args.first.now.elements c.args.place c.in-Some.name.now c.count.ensures.kept.elements_apart (sym (ap option_copied c.in-Some.is) ∙ c.name_at.ensures)
    (sym c.automaton_of.ensures ∙ ap option_copied c.in-None-automaton_of.is))

pub returns-in-Some-automaton_of : goal.returns-in-Some-automaton_of
returns-in-Some-automaton_of c =
    let place = placed c.args.first.now.elements c.args.place c.in-Some.name.now c.in-Some-automaton_of.own.now c.count.ensures.kept.elements_apart
    (sym (ap option_copied c.in-Some.is) ∙ c.name_at.ensures) (sym c.automaton_of.ensures ∙ ap option_copied c.in-Some-automaton_of.is) in
    subst (λ o. Gives (read_row_at c.args.cap c.args.second.now o c.args.at.now.line (lines_of c.args.at.now.rest.now)) (rest_of c.read_row.new.at) c.read_row.result) (sym place) c.read_row.ensures
