use Rattle.std.proofs.Common.{◌≡◌, map, take}
use Rattle.std.specs.List.{concat}
use Rattle.dtd_scanner.specs.declared.item.ItemKind.TheVariants.{AttlistDecl}
use Rattle.dtd_flattener.specs.Flat.{attribute_body, written}
use Rattle.dtd_flattener.specs.Sizes.{size_of, capped}
use Rattle.dtd_flattener.proofs.sizes.attributes_size.Given as goal

abbrev pub invariant-loop-at : goal.invariant-loop-at
invariant-loop-at l = l.total ≡ capped (size_of (concat (map (λ e. written (AttlistDecl, attribute_body l.element e)) (take l.at l.list))))
