use Rattle.std.proofs.Common.{◌≡◌, sym, ◌∙◌, subst, Some, None, List, ℕ}
use Rattle.std.specs.Prelude.{Err}
use Rattle.content_models.specs.declared.parsing.ContentFault.TheVariants as fault
use Rattle.content_models.specs.Parses.{Parses}
use Rattle.content_models.specs.Reading.{content_of}
use Rattle.content_models.proofs.Contents.{content_sound}
use Rattle.content_models.proofs.Exact.{shallow, judged_parses, unread_parses}
use Rattle.content_models.proofs.parsing.parse_content.Goals as goal

pub returns-in-Ok-Some : goal.returns-in-Ok-Some
returns-in-Ok-Some c =
    let text = c.as_slice-text.result.now in
    let read : content_of text ≡ Some c.in-Ok-Some.content = sym c.in-Ok-Some.ensures ∙ c.in-Ok-Some.field-0-is in
    subst (λ t. Parses t c.judge.result) c.as_slice-text.ensures
    (judged_parses text c.in-Ok-Some.content c.judge.result (content_sound text c.in-Ok-Some.content read) (shallow text c.if-is_too_deep.ensures) c.judge.ensures)

pub returns-in-Ok-None : goal.returns-in-Ok-None
returns-in-Ok-None c =
    let text = c.as_slice-text.result.now in
    let read : content_of text ≡ None = sym c.in-Ok-None.ensures ∙ c.in-Ok-None.field-0-is in
    let P : List ℕ → Type 0 = λ t. Parses t (Err fault.Malformed) in
    subst P c.as_slice-text.ensures (unread_parses text read (shallow text c.if-is_too_deep.ensures))
