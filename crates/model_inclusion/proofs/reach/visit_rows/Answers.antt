use Rattle.std.proofs.Common.{◌∙◌, ap}
use Rattle.model_inclusion.specs.Reaching.{forgotten}
use Rattle.model_inclusion.proofs.Noting.{restored}
use Rattle.model_inclusion.proofs.reach.visit_rows.Goals as goal

pub returns-clause-keeps : goal.returns-clause-keeps
returns-clause-keeps c =
    c.forget.ensures ∙ ap (forgotten c.args.second.now) c.note.ensures ∙ restored c.args.second.now c.args.steps.now.items c.requires.none
