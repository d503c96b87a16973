use Rattle.decl_set.specs.Declarations.{Declarations}
use Rattle.module_reader.specs.Sets.{set_from}
use Rattle.module_reader.specs.Sources.{Files}
use Rattle.module_reader.proofs.AskedFrom.{from_handed}
use Rattle.module_reader.proofs.Handing.{handed_load, handed_absence, handed_told}
use Rattle.module_reader.proofs.reading.read_set.Goals as goal

pub returns-in-Err-clause-faults : goal.returns-in-Err-clause-faults
returns-in-Err-clause-faults g c = handed_load Declarations _ _ c.in-Err.stop c.handed_out.result c.handed_out.ensures.same c.in-Err.ensures.faults

pub returns-in-Err-clause-absences : goal.returns-in-Err-clause-absences
returns-in-Err-clause-absences g c = handed_absence Declarations _ _ c.in-Err.stop c.handed_out.result c.handed_out.ensures.same c.in-Err.ensures.absences

pub returns-in-Err-clause-told : goal.returns-in-Err-clause-told
returns-in-Err-clause-told g c =
    handed_told Declarations (g.S.Store.holds c.args.store.now) (λ (files : Files). set_from (record { files = files; catalog = c.args.catalog.now }) c.args.entry.now) c.in-Err.stop c.handed_out.result c.handed_out.ensures.same c.in-Err.ensures.told

pub returns-in-Err-clause-asks : goal.returns-in-Err-clause-asks
returns-in-Err-clause-asks g c = from_handed Declarations _ _ c.args.entry.now c.in-Err.stop c.handed_out.result c.handed_out.ensures.same c.in-Err.ensures.asks
