use Rattle.std.proofs.Common.{◌≡◌, length, subst, sym}
use Rattle.std.specs.Prelude.{IfOk}
use Rattle.content_models.proofs.Groups.{opened_mixed}
use Rattle.content_models.proofs.parsing.read_opened.Goals as goal

pub returns-then-starts_with : goal.returns-then-starts_with
returns-then-starts_with c =
    let text = c.args.text.now in
    subst (λ k. IfOk c.read_mixed.result (λ o. o ≡ k))
    (opened_mixed (length text) text c.skip-start.result c.skip-start.ensures.value (sym c.if-starts_with.ensures.value))
    c.read_mixed.ensures
