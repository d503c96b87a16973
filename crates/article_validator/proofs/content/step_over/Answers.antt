use Rattle.std.specs.Prelude.{◌<◌, ℕ, Option, Some, None, IfSome}
use Rattle.content_models.specs.declared.content.Content.{Content}
use Rattle.content_models.specs.Model.{Chars}
use Rattle.position_automata.specs.Automata.{IsStep, states}
use Rattle.position_automata.proofs.Running.{follows_to}
use Rattle.article_validator.proofs.content.step_over.Goals as goal

within : (content : Content) (i : ℕ) (name : Chars) (o : Option ℕ) → IsStep content i name o → IfSome o (λ next. next < states content)
within content i name None h = tt
within content i name (Some j) h = follows_to content i j name h

pub returns-in-Element-clause-within : goal.returns-in-Element-clause-within
returns-in-Element-clause-within c = within c.args.automaton.now c.args.state _ c.step.result c.step.ensures.follows
