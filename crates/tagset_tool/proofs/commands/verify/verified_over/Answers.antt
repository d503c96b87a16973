use Rattle.std.proofs.Common.{arith}
use Rattle.decl_set.specs.Declarations.{Declarations}
use Rattle.module_reader.specs.Sources.{file_text}
use Rattle.module_reader.proofs.Told.{cause_later, cause_of}
use Rattle.bound_checker.specs.Certificates.{read_lines}
use Rattle.bound_checker.specs.Lines.{lines_of}
use Rattle.tagset_tool.proofs.Asked.{absence_of, told_one, told_stopped}
use Rattle.tagset_tool.proofs.Causes.{no_cause}
use Rattle.tagset_tool.proofs.Present.{certified_present}
use Rattle.tagset_tool.specs.commands.Verify.{certified, most_certified}
use Rattle.tagset_tool.proofs.commands.verify.verified_over.Goals as goal

pub returns-in-Ok-certified-clause-absences : goal.returns-in-Ok-certified-clause-absences
returns-in-Ok-certified-clause-absences g c =
    no_cause _ _ _ c.load_text.ensures.absences.later
    (certified_present c.args.first.now c.args.second.now c.args.name.now (read_lines c.args.first.now c.args.second.now (lines_of c.in-Ok.text)) c.in-Ok-certified.answer.status c.in-Ok-certified.answer.bytes.items c.in-Ok-certified.ensures.answer)

pub returns-in-Ok-certified-clause-told : goal.returns-in-Ok-certified-clause-told
returns-in-Ok-certified-clause-told g c =
    told_one (g.S.Store.holds c.args.store.now) (λ files. file_text most_certified files c.args.name.now) (λ text. certified c.args.first.now c.args.second.now c.args.name.now (read_lines c.args.first.now c.args.second.now (lines_of text)))
    c.in-Ok.text c.in-Ok-certified.answer.status c.in-Ok-certified.answer.bytes.items c.in-Ok.ensures.told c.in-Ok-certified.ensures.answer

pub returns-in-Err-clause-told : goal.returns-in-Err-clause-told
returns-in-Err-clause-told g c =
    told_stopped (g.S.Store.holds c.args.store.now) (λ files. file_text most_certified files c.args.name.now) (λ files text. certified c.args.first.now c.args.second.now c.args.name.now (read_lines c.args.first.now c.args.second.now (lines_of text)))
    c.in-Err.fault c.stop_of.result c.in-Err.ensures.told c.stop_of.ensures.stops
