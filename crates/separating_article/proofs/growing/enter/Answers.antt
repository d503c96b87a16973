use Rattle.std.proofs.Common.{◌∙◌, Option, Ok, Err, sym, ap, subst, slice_get, IfSome}
use Rattle.separating_article.specs.Growing.{Starts}
use Rattle.separating_article.specs.declared.choosing.Step.{Step}
use Rattle.separating_article.specs.declared.growing.Started.{Started}
use Rattle.separating_article.proofs.Starting.{starts_at}
use Rattle.separating_article.proofs.Stepped.{enters, enters_over}
use Rattle.separating_article.proofs.growing.enter.Goals as goal

pub returns-in-Err : goal.returns-in-Err
returns-in-Err c =
    let guide = c.args.guide.now in
    let old = c.args.work.now in
    enters_over guide old old c.args.step c.in-Err.over c.requires.stands.0 c.requires.step
    (starts_at guide c.args.step.place c.args.step.separates c.chosen_at-chosen.result old.left (Err c.in-Err.over) c.chosen_at-chosen.ensures.is c.in-Err.ensures)

pub returns : goal.returns
returns c =
    let guide = c.args.guide.now in
    let old = c.args.work.now in
    enters guide old (record { left = c.in-Ok.started.1; inner = c.replace-outer.new.dest; outer = c.push.new.self; steps = c.next-work.new.self }) c.args.step c.replace-outer.result
    c.requires.step c.requires.stands
    (subst (λ (v : Started). IfSome (slice_get guide.first.now.elements c.args.step.place) (λ e. Starts guide e.0 c.args.step.place c.args.step.separates old.left (Ok (v, c.in-Ok.started.1))))
    (sym c.replace-outer.ensures.after)
    (starts_at guide c.args.step.place c.args.step.separates c.chosen_at-chosen.result old.left (Ok c.in-Ok.started) c.chosen_at-chosen.ensures.is c.in-Ok.ensures))
    (c.replace-outer.ensures.value ∙ ap (λ (s : Option Step). record old.inner { step = s }) c.next-work.ensures.value)
    c.in_ok-push.ensures.items c.next-work.ensures.chosen
