use Rattle.std.proofs.Common.{Ok, Err}
use Rattle.separating_article.specs.declared.growing.Growing.{Growing}
use Rattle.separating_article.proofs.Built.{at_some, no_place, start_over, start_stands}
use Rattle.separating_article.proofs.FoundSteps.{none_chosen}
use Rattle.separating_article.proofs.Starting.{starts_at}
use Rattle.separating_article.proofs.building.begun.Goals as goal

pub unreachable-requires : goal.unreachable-requires
unreachable-requires c = no_place c.args.guide.now c.args.separates c.args.root.now c.args.limit c.requires.guide c.in-None.ensures c.requires.tree

pub chosen_at-chosen-requires-clause-within : goal.chosen_at-chosen-requires-clause-within
chosen_at-chosen-requires-clause-within c = at_some c.args.guide.now c.args.separates c.args.root.now c.args.limit c.requires.guide c.in-Some.place c.in-Some.ensures

pub chosen_at-chosen-requires-clause-chosen : goal.chosen_at-chosen-requires-clause-chosen
chosen_at-chosen-requires-clause-chosen c = none_chosen c.args.guide.now c.new-steps.result c.new-steps.ensures

pub returns-in-Err : goal.returns-in-Err
returns-in-Err c =
    start_over c.args.guide.now c.args.separates c.args.root.now c.args.limit c.requires.guide c.in-Some.place c.in-Some.ensures c.in-Err.over
    (starts_at c.args.guide.now c.in-Some.place c.args.separates c.chosen_at-chosen.result c.args.limit (Err c.in-Err.over) c.chosen_at-chosen.ensures.is c.in-Err.ensures)

pub returns-in-Ok : goal.returns-in-Ok
returns-in-Ok c =
    let work : Growing = record { left = c.in-Ok.left; inner = c.in-Ok.inner; outer = c.new.result; steps = c.chosen_at-chosen.new.steps } in
    start_stands c.args.guide.now c.args.separates c.args.root.now c.args.limit c.requires.guide c.in-Some.place c.in-Some.ensures work c.new.ensures.items
    (starts_at c.args.guide.now c.in-Some.place c.args.separates c.chosen_at-chosen.result c.args.limit (Ok (c.in-Ok.inner, c.in-Ok.left)) c.chosen_at-chosen.ensures.is c.in-Ok.ensures)
    c.chosen_at-chosen.ensures.chosen
