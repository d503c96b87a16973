use Rattle.std.proofs.Common.{arith, ap, ◌∙◌, ◌≡◌, ◌<◌, ◌++◌, length, get_or}
use Rattle.content_models.specs.Spelling.{spelled}
use Rattle.content_models.proofs.Spelled.{part_first, part_later}
use Rattle.content_models.proofs.printing.+print.Goals as goal
use Rattle.content_models.proofs.printing.+print.Goals.{print_parts-then-at-gt0+in_ok-push, print_parts-else-at-gt0}

pub print_parts-loop-at-preserved : goal.print_parts-loop-at-preserved
print_parts-loop-at-preserved t c =
    let r = c.index-parts-at.result in
    let same : c.print_part.new.out ≡ c.if-at-gt0.out ++ spelled (get_or c.args.parts.now c.loop-at.at r) =
    c.in_ok-print_part.ensures ∙ ap (λ k. c.if-at-gt0.out ++ spelled k) c.index-parts-at.is in
    let within : c.loop-at.at < length c.args.parts.now = omega arith in
    elim c.if-at-gt0.branch [
      | print_parts-then-at-gt0+in_ok-push w ↦
          part_later c.args.separator c.args.parts.now c.loop-at.at r c.args.out.now c.loop-at.out w.push.new.self c.print_part.new.out
          within (omega arith) c.loop-at.invariant w.in_ok-push.ensures.ok
          (same ∙ ap (λ v. v ++ spelled (get_or c.args.parts.now c.loop-at.at r)) w.out-is)
      | print_parts-else-at-gt0 w ↦
          part_first c.args.separator c.args.parts.now c.loop-at.at r c.args.out.now c.loop-at.out c.print_part.new.out
          within (omega arith) c.loop-at.invariant
          (same ∙ ap (λ v. v ++ spelled (get_or c.args.parts.now c.loop-at.at r)) w.out-is)
    ]
