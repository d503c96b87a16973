use Rattle.tagset_tool.proofs.Causes.{no_cause}
use Rattle.tagset_tool.proofs.Present.{flat_present}
use Rattle.std.specs.Prelude.{encode_utf8_all}
use Rattle.dtd_flattener.specs.Flat.{flat_text}
use Rattle.tagset_tool.specs.Outcomes.{fitting}
use Rattle.tagset_tool.specs.Words.{set_by, set_words}
use Rattle.tagset_tool.proofs.Asked.{told_stopped}
use Rattle.tagset_tool.proofs.commands.flatten.flatten_words.Goals as goal

pub returns-in-Ok-flattened-clause-absences : goal.returns-in-Ok-flattened-clause-absences
returns-in-Ok-flattened-clause-absences g c = no_cause _ _ _ c.read_words.ensures.absences.later (flat_present c.in-Ok.set c.in-Ok-flattened.answer.status c.in-Ok-flattened.answer.bytes.items c.in-Ok-flattened.ensures.fits)

pub returns-in-Err-clause-told : goal.returns-in-Err-clause-told
returns-in-Err-clause-told g c =
    told_stopped (g.S.Store.holds c.args.store.now) (λ files. set_by files (set_words c.args.words.now 1)) (λ files set. fitting 0 (encode_utf8_all (flat_text set))) c.in-Err.fault c.stop_of.result c.in-Err.ensures.told c.stop_of.ensures.stops
