use Rattle.std.specs.Prelude.{string_bytes}
use Rattle.std.proofs.Common.{sym}
use Rattle.dtd_scanner.specs.declared.item.ItemKind.TheVariants.{AttlistDecl}
use Rattle.dtd_flattener.specs.Flat.{attribute_body, written}
use Rattle.dtd_flattener.proofs.Streamed.{bytes_more}
use Rattle.dtd_flattener.proofs.writing.put_attributes.Goals as goal

pub loop-at-preserved : goal.loop-at-preserved
loop-at-preserved c =
    bytes_more (λ e. written (AttlistDecl, attribute_body c.args.element.now e)) c.args.list.now c.loop-at.at (c.in-Some.name.now, c.in-Some.definition.now) (string_bytes c.args.out.now) (string_bytes c.loop-at.out) (string_bytes c.put_attribute_line.new.out)
    (sym c.in-Some.ensures.value) c.loop-at.invariant c.in_ok-put_attribute_line-in-Some.ensures
