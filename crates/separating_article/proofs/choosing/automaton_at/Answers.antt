use Rattle.std.proofs.Common.{slice_get, refl, ◌∙◌}
use Rattle.separating_article.proofs.NextSteps.{named_content}
use Rattle.separating_article.proofs.choosing.automaton_at.Goals as goal

pub returns-in-Some : goal.returns-in-Some
returns-in-Some c =
    c.automaton_of.ensures
    ∙ named_content c.args.set.now c.count.ensures.kept c.args.e c.in-Some.name.now (slice_get c.args.set.now.elements c.args.e) refl c.in-Some.ensures
