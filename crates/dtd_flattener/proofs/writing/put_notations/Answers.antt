use Rattle.std.specs.Prelude.{string_bytes}
use Rattle.std.proofs.Common.{sym}
use Rattle.dtd_scanner.specs.declared.item.ItemKind.TheVariants.{NotationDecl}
use Rattle.dtd_flattener.specs.Flat.{notation_body, written}
use Rattle.dtd_flattener.proofs.Streamed.{bytes_more}
use Rattle.dtd_flattener.proofs.writing.put_notations.Goals as goal

pub loop-at-preserved : goal.loop-at-preserved
loop-at-preserved c =
    bytes_more (λ n. written (NotationDecl, notation_body n)) c.args.set.now.notations c.loop-at.at (c.in-Some.name.now, c.in-Some.ids.now) (string_bytes c.args.out.now) (string_bytes c.loop-at.out) (string_bytes c.put_notation_line.new.out)
    (sym c.in-Some.ensures) c.loop-at.invariant c.in_ok-put_notation_line-in-Some.ensures
