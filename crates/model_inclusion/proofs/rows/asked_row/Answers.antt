use Rattle.std.proofs.Common.{◌≡◌, ◌<◌, List, length, get_or, subst}
use Rattle.content_models.specs.Model.{Chars}
use Rattle.model_inclusion.proofs.Filling.{asked_more}
use Rattle.model_inclusion.proofs.rows.asked_row.Goals as goal

pub loop-name-preserved : goal.loop-name-preserved
loop-name-preserved c =
    let e = c.as_slice-name-items.ensures in
    asked_more c.args.live.now c.args.automaton.now c.args.state c.loop-name.name-index _ _ _
    (subst (λ (xs : List Chars). c.loop-name.name-index < length xs) e c.loop-name-test.true)
    c.loop-name.invariant
    (subst (λ (xs : List Chars). c.name-item.result ≡ get_or xs c.loop-name.name-index c.name-item.result) e c.name-item.is)
    c.in_ok-push_asked.ensures
