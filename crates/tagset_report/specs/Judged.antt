-- What is found of one element.
use Rattle.std.specs.Prelude.{◌<◌, ◌≤◌, ℕ, MatchOption, Option, Result, Ok, Err}
use Rattle.content_models.specs.declared.content.Content.{Content}
use Rattle.content_models.specs.Model.{Chars}
use Rattle.decl_set.specs.Declarations.{Declarations, content_in}
use Rattle.decl_set.specs.Breaks.{Breaks}
use Rattle.decl_set.specs.declared.breaks.Cause.{Cause}
use Rattle.model_inclusion.specs.declared.fault.PairFault.{PairFault}
use Rattle.model_inclusion.specs.declared.fault.PairFault.TheVariants.{PairsOver, NoMemory}
use Rattle.tagset_report.specs.declared.causes.Judged.{Judged}
use Rattle.tagset_report.specs.Reported.{CountsPairs}

-- the cause by which the element breaks, and None where it does not
abbrev pub IsCause : Declarations → Declarations → Chars → Option Cause → Type 0
IsCause first second name cause = MatchOption cause ((k : Cause) → Breaks first second name k → ⊥) (λ k. Breaks first second name k)

abbrev pub Judges : Declarations → Declarations → Chars → Content → ℕ → Result Judged PairFault → Type 0
Judges first second name a left (Ok j) = CountsPairs first a (content_in second name) j.pairs × (j.pairs ≤ left) × IsCause first second name j.cause
Judges first second name a left (Err PairsOver) = (n : ℕ) × CountsPairs first a (content_in second name) n × (left < n)
Judges first second name a left (Err NoMemory) = Unit {0}
