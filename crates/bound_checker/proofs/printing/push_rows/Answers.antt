use Rattle.std.proofs.Common.{◌+◌, drop, slice_get}
use Rattle.bound_checker.specs.Certificates.{row_lines}
use Rattle.bound_checker.specs.Lines.{row_lines_at}
use Rattle.bound_checker.proofs.Putting.{put_more, rows_next}
use Rattle.bound_checker.proofs.printing.push_rows.Goals as goal

pub loop-at-preserved : goal.loop-at-preserved
loop-at-preserved c =
    put_more c.args.out.now c.loop-at.out c.push_row_at.new.out
    (row_lines_at (slice_get c.args.first.now.elements c.loop-at.at) (slice_get c.args.tables.now.rows c.loop-at.at))
    (row_lines (drop (c.loop-at.at + 1) c.args.first.now.elements) (drop (c.loop-at.at + 1) c.args.tables.now.rows))
    (row_lines (drop c.loop-at.at c.args.first.now.elements) (drop c.loop-at.at c.args.tables.now.rows))
    (row_lines c.args.first.now.elements c.args.tables.now.rows)
    (λ rest. rows_next c.args.first.now.elements c.args.tables.now.rows c.loop-at.at rest) c.loop-at.invariant c.in_ok-push_row_at.ensures
