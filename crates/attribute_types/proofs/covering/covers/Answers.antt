use Rattle.std.proofs.Common.{◌∙◌, sym}
use Rattle.attribute_types.proofs.Uncovering.{covers_told}
use Rattle.attribute_types.proofs.covering.covers.Goals as goal

pub returns : goal.returns
returns c =
    let told = covers_told c.args.first.now c.args.second.now c.requires.first c.requires.second in
    (λ e. told.0 (sym c.is_covered.ensures ∙ e), λ k. c.is_covered.ensures ∙ told.1 k)
