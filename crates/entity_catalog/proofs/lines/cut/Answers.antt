use Rattle.std.proofs.Common.{◌≡◌, ◌∙◌, ap, ◌∷◌, sym, arith, length, ◌+◌, take, drop, ◌-◌}
use Rattle.std.proofs.lemmas.Grind.{common_steps}
use Rattle.std.specs.List.{slice_split}
use Rattle.entity_catalog.specs.Lines.{is_quote}
use Rattle.entity_catalog.proofs.Cuts.{slice_split-uncut, slice_split-cut}
use Rattle.entity_catalog.proofs.lines.cut.Goals as goal

pub returns-in-None : goal.returns-in-None
returns-in-None c = slice_split-uncut is_quote _ (sym c.in-None.ensures.value)

pub returns-in-Some : goal.returns-in-Some
returns-in-Some c =
    let rest : drop (c.in-Some.k + 1) c.args.text.now ≡ take (length c.args.text.now - (c.in-Some.k + 1)) (drop (c.in-Some.k + 1) c.args.text.now) = grind (arith, common_steps) in
    slice_split-cut is_quote _ _ (sym c.in-Some.ensures.value) ∙ ap (λ r. take c.in-Some.k c.args.text.now ∷ slice_split is_quote r) rest
