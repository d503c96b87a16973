use Rattle.dtd_scanner.proofs.Agreement.{found_here, goes_far, goes_on}
use Rattle.dtd_scanner.proofs.scan.item_from.Goals as goal

pub returns-in-Ok-clause-scans : goal.returns-in-Ok-clause-scans
returns-in-Ok-clause-scans c = found_here c.args.text.now _ c.args.at c.in-Ok.item c.split_at.ensures.back c.in-Ok.ensures.value

pub returns-in-Ok-clause-far : goal.returns-in-Ok-clause-far
returns-in-Ok-clause-far c =
    let is = found_here c.args.text.now _ c.args.at c.in-Ok.item c.split_at.ensures.back c.in-Ok.ensures.value in
    (goes_far _ _ _ _ is, (goes_on _ _ _ _ is).1)
