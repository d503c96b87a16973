use Rattle.std.specs.Option.{option_copied}
use Rattle.entity_catalog.specs.Named.{Named}
use Rattle.module_reader.specs.Sets.{catalog_from}
use Rattle.module_reader.specs.Sources.{Files}
use Rattle.module_reader.proofs.Handing.{handed_load, handed_absence, handed_told}
use Rattle.module_reader.proofs.catalogs.load_catalog.Goals as goal

pub returns-in-Err-clause-faults : goal.returns-in-Err-clause-faults
returns-in-Err-clause-faults g c = handed_load Named _ _ c.in-Err.stop c.handed_out.result c.handed_out.ensures.same c.in-Err.ensures.faults

pub returns-in-Err-clause-absences : goal.returns-in-Err-clause-absences
returns-in-Err-clause-absences g c = handed_absence Named _ _ c.in-Err.stop c.handed_out.result c.handed_out.ensures.same c.in-Err.ensures.absences

pub returns-in-Err-clause-told : goal.returns-in-Err-clause-told
returns-in-Err-clause-told g c =
    handed_told Named (g.S.Store.holds c.args.store.now) (λ (files : Files). catalog_from files (option_copied c.args.name)) c.in-Err.stop c.handed_out.result c.handed_out.ensures.same c.in-Err.ensures.told
