-- Outcomes with one status and one text.
use Rattle.std.proofs.Common.{◌∙◌, ℕ, Bool, true, false, List, Ok, Err, sym, length, nat_lt}
use Rattle.std.specs.Prelude.{Result}
use Rattle.jats_fault.specs.Lines.{line_of}
use Rattle.jats_fault.specs.declared.fault.Fault.{Fault}
use Rattle.tagset_tool.specs.Outcomes.{Outcome, IsUnique, answering, refusing, after, fitting, fitting_by, most_written}
use Rattle.tagset_tool.specs.Refusals.{output_over}

pub answering_unique : (wanted : ℕ) (text : List ℕ) → IsUnique (answering wanted text)
answering_unique wanted text s t b c one other = (one.0 ∙ sym other.0, one.1 ∙ sym other.1)

pub refusing_unique : (refusal : Fault) → IsUnique (refusing refusal)
refusing_unique refusal = answering_unique 2 (line_of refusal)

pub after_unique : {X : Type 0} → (r : Result X Fault) (next : X → Outcome) → ((x : X) → IsUnique (next x)) → IsUnique (after r next)
after_unique (Err refusal) next each = refusing_unique refusal
after_unique (Ok x) next each = each x

fitting_by_unique : (long : Bool) (wanted : ℕ) (text : List ℕ) → IsUnique (fitting_by long wanted text)
fitting_by_unique true wanted text = refusing_unique output_over
fitting_by_unique false wanted text = answering_unique wanted text

pub fitting_unique : (wanted : ℕ) (text : List ℕ) → IsUnique (fitting wanted text)
fitting_unique wanted text = fitting_by_unique (nat_lt most_written (length text)) wanted text
