use Rattle.std.proofs.Common.{◌∙◌, map, refl, ap}
use Rattle.pe_expansion.specs.Pausing.{place_of}
use Rattle.pe_expansion.proofs.Numbering.{pauses}
use Rattle.pe_expansion.proofs.pausing.pause.Goals as goal

pub returns : goal.returns
returns c = λ bound chain outer under.
    (pauses c.args.manner bound chain outer c.args.first c.args.work _ under c.requires refl refl refl refl (c.in_ok-places.ensures ∙ ap (map place_of) c.as_slice.ensures.value) refl refl, refl, refl)
