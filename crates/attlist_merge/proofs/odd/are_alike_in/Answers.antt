use Rattle.std.proofs.Common.{◌∙◌, ap, sym, is_none, nat_eq}
use Rattle.std.specs.Option.{option_copied}
use Rattle.attlist_merge.specs.Oddness.{odd_of}
use Rattle.attlist_merge.specs.Shown.{attributes}
use Rattle.attlist_merge.proofs.Samples.{odd_alone}
use Rattle.attlist_merge.proofs.odd.are_alike_in.Goals as goal

pub returns-in-None : goal.returns-in-None
returns-in-None c =
    let first = attributes (option_copied c.args.first) in
    ap (λ n. nat_eq n 0) c.count.ensures.value ∙ odd_alone first ∙ ap (λ o. is_none (odd_of first (attributes (option_copied o)))) (sym c.in-None.is)
