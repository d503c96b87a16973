use Rattle.std.proofs.Common.{◌≡◌, map, take}
use Rattle.std.specs.List.{concat}
use Rattle.dtd_scanner.specs.declared.item.ItemKind.TheVariants.{EntityDecl}
use Rattle.dtd_flattener.specs.Flat.{entity_body, written}
use Rattle.dtd_flattener.specs.Sizes.{size_of, capped}
use Rattle.dtd_flattener.proofs.sizes.entities_size.Given as goal

abbrev pub invariant-loop-at : goal.invariant-loop-at
invariant-loop-at l = l.total ≡ capped (size_of (concat (map (λ e. written (EntityDecl, entity_body e)) (take l.at l.set.entities))))
