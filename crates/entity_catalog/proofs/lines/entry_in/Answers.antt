use Rattle.std.proofs.Common.{◌∙◌, ap, ◌∷◌, sym}
use Rattle.entity_catalog.specs.Lines.{entry_of}
use Rattle.entity_catalog.proofs.Cuts.{CutAt, formed, unformed_end, unformed_gap}
use Rattle.entity_catalog.proofs.lines.entry_in.Goals as goal
use Rattle.entity_catalog.proofs.lines.entry_in.Goals.{In_ok-name, else-is_gap-via-then-is_gap+else-are_blanks, else-is_gap-via-else-is_gap}

cuts : (c : In_ok-name) → CutAt c.args.line.now c.in_ok-keyword.keyword.now c.in_ok-identifier.identifier.now c.in_ok-between.between.now c.in_ok-name.name.now c.in_ok-name.end.now
cuts c = record {
  parts =
      c.in_ok-keyword.ensures
      ∙ ap (λ p. c.in_ok-keyword.keyword.now ∷ p) (c.in_ok-identifier.ensures ∙ ap (λ p. c.in_ok-identifier.identifier.now ∷ p) (c.in_ok-between.ensures ∙ ap (λ p. c.in_ok-between.between.now ∷ p) c.in_ok-name.ensures));
}

pub returns-then-are_blanks : goal.returns-then-are_blanks
returns-then-are_blanks c =
    let at = cuts (goal.at.returns-then-are_blanks c).In_ok-name in
    c.entry_of.ensures ∙ ap (λ k. entry_of k c.in_ok-identifier.identifier.now c.in_ok-name.name.now) c.unindented.ensures ∙ sym (formed at (sym c.if-is_gap.ensures) (sym c.if-are_blanks.ensures))

pub returns-else-is_gap : goal.returns-else-is_gap
returns-else-is_gap c =
    let at = cuts (goal.at.returns-else-is_gap c).In_ok-name in
    elim c.else-is_gap.branch [
      | else-is_gap-via-then-is_gap+else-are_blanks w ↦ sym (unformed_end at (sym w.if-are_blanks.ensures))
      | else-is_gap-via-else-is_gap w ↦ sym (unformed_gap at (sym w.if-is_gap.ensures))
    ]
