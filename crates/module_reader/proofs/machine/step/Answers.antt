use Rattle.std.proofs.Common.{◌≡◌, ◌∙◌, false, sym, ap, subst, Err, List, ℕ}
use Rattle.std.specs.Prelude.{Result}
use Rattle.dtd_scanner.specs.Scanning.{item_at}
use Rattle.module_reader.specs.Frames.{Stepped, current, left_of, rest_of, waiting}
use Rattle.module_reader.specs.Reading.{ends_section, scan_stop}
use Rattle.module_reader.proofs.Left.{scan_left}
use Rattle.module_reader.proofs.Told.{told_always}
use Rattle.module_reader.proofs.Works.{refuses_left}
use Rattle.module_reader.proofs.machine.step.Goals as goal

pub returns-in-Err-clause-told : goal.returns-in-Err-clause-told
unfolding left_of
returns-in-Err-clause-told g c =
    let w = c.args.work.now in
    let no_end : ends_section (current w).sections (rest_of (current w)) ≡ false = sym c.ends_section.ensures.value ∙ c.if-ends_section.false in
    told_always (g.S.Store.holds c.args.store.now) (λ files. Stepped {X = Unit {0}} (record { files = files; catalog = c.args.catalog.now }) w w (Err c.scan_stop.result))
    (λ files. refuses_left (Unit {0}) (record { files = files; catalog = c.args.catalog.now }) w w c.scan_stop.result (scan_stop w.frame.standing w.frame.at c.in-Err.fault) c.scan_stop.ensures
    (scan_left (record { files = files; catalog = c.args.catalog.now }) (waiting w) (current w) w.state c.in-Err.fault c.requires.here no_end c.in-Err.ensures.value))
