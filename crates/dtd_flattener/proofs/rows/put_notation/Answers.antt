use Rattle.dtd_scanner.specs.declared.item.ItemKind.TheVariants.{NotationDecl}
use Rattle.dtd_flattener.specs.Flat.{notation_body}
use Rattle.dtd_flattener.proofs.Appended.{line_written}
use Rattle.dtd_flattener.proofs.rows.put_notation.Goals as goal

pub returns : goal.returns
returns c =
    line_written NotationDecl (notation_body (c.args.name.now, c.args.ids.now)) c.args.out.now c.push_slice.new.self c.put_notation_body.new.out c.put_end.new.out c.put_end.result
    c.in_ok-push_slice.ensures.ok c.in_ok-put_notation_body.ensures c.put_end.ensures
