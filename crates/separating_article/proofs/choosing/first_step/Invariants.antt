use Rattle.std.proofs.Common.{slice_get}
use Rattle.decl_set.specs.Steps.{steps_at}
use Rattle.separating_article.specs.Choosing.{attains, state_of}
use Rattle.separating_article.proofs.NextSteps.{IsLeft}
use Rattle.separating_article.proofs.choosing.first_step.Given as goal

abbrev pub invariant-loop-k : goal.invariant-loop-k
invariant-loop-k l = IsLeft (attains l.guide l.e l.path) (steps_at l.guide.first.now (slice_get l.guide.first.now.elements l.e) (state_of l.path)) l.k
