use Rattle.std.proofs.Common.{ℕ, List}
use Rattle.module_reader.specs.Sources.{file_text}
use Rattle.module_reader.specs.Sources.{Files}
use Rattle.module_reader.proofs.Handing.{handed_load, handed_absence, handed_told}
use Rattle.module_reader.proofs.files.load_text.Goals as goal

pub returns-in-Err-clause-faults : goal.returns-in-Err-clause-faults
returns-in-Err-clause-faults g c = handed_load (List ℕ) _ _ c.in-Err.stop c.handed_out.result c.handed_out.ensures.same c.in-Err.ensures.faults

pub returns-in-Err-clause-absences : goal.returns-in-Err-clause-absences
returns-in-Err-clause-absences g c = handed_absence (List ℕ) _ _ c.in-Err.stop c.handed_out.result c.handed_out.ensures.same c.in-Err.ensures.absences

pub returns-in-Err-clause-told : goal.returns-in-Err-clause-told
returns-in-Err-clause-told g c =
    handed_told (List ℕ) (g.S.Store.holds c.args.store.now) (λ (files : Files). file_text c.args.limit files c.args.name.now) c.in-Err.stop c.handed_out.result c.handed_out.ensures.same c.in-Err.ensures.told
