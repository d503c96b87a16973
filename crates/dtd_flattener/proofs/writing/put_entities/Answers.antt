use Rattle.std.specs.Prelude.{string_bytes}
use Rattle.std.proofs.Common.{sym}
use Rattle.dtd_scanner.specs.declared.item.ItemKind.TheVariants.{EntityDecl}
use Rattle.dtd_flattener.specs.Flat.{entity_body, written}
use Rattle.dtd_flattener.proofs.Streamed.{bytes_more}
use Rattle.dtd_flattener.proofs.writing.put_entities.Goals as goal

pub loop-at-preserved : goal.loop-at-preserved
loop-at-preserved c =
    bytes_more (λ e. written (EntityDecl, entity_body e)) c.args.set.now.entities c.loop-at.at (c.in-Some.name.now, c.in-Some.def.now) (string_bytes c.args.out.now) (string_bytes c.loop-at.out) (string_bytes c.put_entity_line.new.out)
    (sym c.in-Some.ensures) c.loop-at.invariant c.in_ok-put_entity_line-in-Some.ensures
