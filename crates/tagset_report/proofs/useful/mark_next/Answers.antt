use Rattle.std.proofs.Common.{ℕ, List, sym, subst}
use Rattle.model_inclusion.specs.Reaching.{Member}
use Rattle.tagset_report.proofs.Stepped.{next_root, next_state}
use Rattle.tagset_report.proofs.useful.mark_next.Goals as goal

pub mark_root-requires : goal.mark_root-requires
mark_root-requires c = λ y m.
    c.requires y (subst (λ (l : List ℕ). Member y l) (sym (next_root c.args.set.now c.args.rows.now c.args.root c.args.number c.if-number-eq0.true)) m)

pub mark_steps-requires : goal.mark_steps-requires
mark_steps-requires c = λ y m.
    c.requires y (subst (λ (l : List ℕ). Member y l) (sym (next_state c.args.set.now c.args.rows.now c.args.root c.args.number c.if-number-eq0.false)) m)
