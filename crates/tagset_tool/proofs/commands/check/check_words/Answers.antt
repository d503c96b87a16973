use Rattle.tagset_tool.proofs.Causes.{no_cause}
use Rattle.tagset_tool.proofs.Present.{counts_present}
use Rattle.tagset_tool.specs.Counts.{count_lines}
use Rattle.tagset_tool.specs.Outcomes.{answering}
use Rattle.tagset_tool.specs.Words.{set_by, set_words}
use Rattle.tagset_tool.proofs.Asked.{told_stopped}
use Rattle.tagset_tool.proofs.commands.check.check_words.Goals as goal

pub returns-in-Ok-checked-clause-absences : goal.returns-in-Ok-checked-clause-absences
returns-in-Ok-checked-clause-absences g c = no_cause _ _ _ c.read_words.ensures.absences.later (counts_present _ c.in-Ok-checked.answer.status c.in-Ok-checked.answer.bytes.items c.in-Ok-checked.ensures)

pub returns-in-Err-clause-told : goal.returns-in-Err-clause-told
returns-in-Err-clause-told g c =
    told_stopped (g.S.Store.holds c.args.store.now) (λ files. set_by files (set_words c.args.words.now 1)) (λ files set. answering 0 (count_lines set)) c.in-Err.fault c.stop_of.result c.in-Err.ensures.told c.stop_of.ensures.stops
