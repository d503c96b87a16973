use Rattle.std.specs.Prelude.{string_bytes}
use Rattle.std.proofs.Common.{sym, map}
use Rattle.std.specs.List.{concat}
use Rattle.dtd_scanner.specs.declared.item.ItemKind.TheVariants.{AttlistDecl}
use Rattle.dtd_flattener.specs.Flat.{attribute_body, written}
use Rattle.dtd_flattener.proofs.Streamed.{bytes_more}
use Rattle.dtd_flattener.proofs.writing.put_lists.Goals as goal

pub loop-at-preserved : goal.loop-at-preserved
loop-at-preserved c =
    bytes_more (λ l. concat (map (λ e. written (AttlistDecl, attribute_body l.0 e)) l.1)) c.args.set.now.lists c.loop-at.at (c.in-Some.element.now, c.in-Some.list.now) (string_bytes c.args.out.now) (string_bytes c.loop-at.out) (string_bytes c.put_attributes.new.out)
    (sym c.in-Some.ensures) c.loop-at.invariant c.in_ok-put_attributes-in-Some.ensures
