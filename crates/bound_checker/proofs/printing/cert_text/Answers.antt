use Rattle.std.proofs.Common.{◌++◌}
use Rattle.std.specs.Prelude.{codes}
use Rattle.std.specs.Fmt.{decimal}
use Rattle.bound_checker.specs.Certificates.{row_lines, spaced}
use Rattle.bound_checker.proofs.Putting.{cert_put}
use Rattle.bound_checker.proofs.printing.cert_text.Goals as goal

pub returns : goal.returns
returns c =
    cert_put c.new-out.result c.push_head.new.out c.push_rows.new.out c.push_bytes.new.out
    (codes "certificate " ++ (codes "1 " ++ spaced c.args.tables.now.root (decimal c.args.tables.now.cap)))
    (row_lines c.args.first.now.elements c.args.tables.now.rows) c.new-out.ensures c.in_ok-push_head.ensures c.in_ok-push_rows.ensures c.in_ok-push_bytes.ensures
