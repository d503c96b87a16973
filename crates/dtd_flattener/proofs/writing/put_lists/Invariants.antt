use Rattle.std.proofs.Common.{◌≡◌, ◌++◌, map, take, encode_utf8_all}
use Rattle.std.specs.Prelude.{string_bytes}
use Rattle.std.specs.List.{concat}
use Rattle.dtd_scanner.specs.declared.item.ItemKind.TheVariants.{AttlistDecl}
use Rattle.dtd_flattener.specs.Flat.{attribute_body, written}
use Rattle.dtd_flattener.proofs.writing.put_lists.Given as goal

abbrev pub invariant-loop-at : goal.invariant-loop-at
invariant-loop-at l = string_bytes l.out ≡ string_bytes l.initial.out ++ encode_utf8_all (concat (map (λ a. concat (map (λ e. written (AttlistDecl, attribute_body a.0 e)) a.1)) (take l.at l.set.lists)))
