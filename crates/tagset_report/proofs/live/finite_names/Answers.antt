use Rattle.std.proofs.Common.{◌≡◌, ◌++◌, ◌+◌, ◌∙◌, List, drop, sym, subst}
use Rattle.content_models.specs.Model.{Chars}
use Rattle.tagset_report.specs.Finite.{live_of}
use Rattle.tagset_report.proofs.Lively.{finite_more, other_more, all_finite}
use Rattle.tagset_report.proofs.live.finite_names.Goals as goal
use Rattle.tagset_report.proofs.live.finite_names.Goals.{then-is_finite+in_ok-push_name, else-is_finite}

pub loop-k-preserved : goal.loop-k-preserved
loop-k-preserved c =
    let es = c.args.set.now.elements in
    let rows = c.args.rows.now in
    let k = c.loop-k.k in
    elim c.if-is_finite.branch [
      | then-is_finite+in_ok-push_name w ↦
          subst (λ (z : List Chars). z ++ live_of (drop (k + 1) es) (drop (k + 1) rows) ≡ live_of es rows) (sym w.names-is)
          (finite_more es rows c.requires k c.index-rows-k.result c.loop-k-test.true c.index-rows-k.is c.loop-k.names c.loop-k.invariant _
          (sym c.is_finite.ensures ∙ w.if-is_finite.true) w.in_ok-push_name.ensures)
      | else-is_finite w ↦
          subst (λ (z : List Chars). z ++ live_of (drop (k + 1) es) (drop (k + 1) rows) ≡ live_of es rows) (sym w.names-is)
          (other_more es rows c.requires k c.index-rows-k.result c.loop-k-test.true c.index-rows-k.is c.loop-k.names c.loop-k.invariant
          (sym c.is_finite.ensures ∙ w.if-is_finite.false))
    ]

pub returns : goal.returns
returns c = all_finite c.args.set.now.elements c.args.rows.now c.loop-k.k c.loop-k.names c.loop-k-test.false c.loop-k.invariant
