use Rattle.std.proofs.Common.{ℕ, List, arith, subst}
use Rattle.tagset_tool.proofs.Asked.{six_words, told_one, told_stopped, word_at}
use Rattle.tagset_tool.proofs.Causes.{no_cause}
use Rattle.tagset_tool.proofs.Present.{reported_present}
use Rattle.tagset_tool.specs.Words.{both_by, set_words, word}
use Rattle.tagset_tool.specs.commands.Report.{reported}
use Rattle.tagset_tool.proofs.commands.report.report_words.Goals as goal

pub returns-in-Ok-reported-clause-absences : goal.returns-in-Ok-reported-clause-absences
returns-in-Ok-reported-clause-absences g c =
    no_cause _ _ _ c.read_both.ensures.absences.later
    (reported_present c.in-Ok.sets.0 c.in-Ok.sets.1 c.index-words-5.result c.in-Ok-reported.answer.status c.in-Ok-reported.answer.bytes.items c.in-Ok-reported.ensures.answer)

pub returns-in-Err-clause-told : goal.returns-in-Err-clause-told
returns-in-Err-clause-told g c =
    told_stopped (g.S.Store.holds c.args.store.now) (λ files. both_by files (set_words c.args.words.now 1) (set_words c.args.words.now 3)) (λ files sets. reported sets.0 sets.1 (word c.args.words.now 5))
    c.in-Err.fault c.stop_of.result c.in-Err.ensures.told c.stop_of.ensures.stops

pub returns-in-Ok-reported-clause-told : goal.returns-in-Ok-reported-clause-told
returns-in-Ok-reported-clause-told g c =
    let words = c.args.words.now in
    let six = six_words words c.requires in
    let named = word_at words 5 c.index-words-5.result (omega arith) c.index-words-5.is in
    let sets = c.in-Ok.sets in
    let status = c.in-Ok-reported.answer.status in
    let bytes = c.in-Ok-reported.answer.bytes.items in
    told_one (g.S.Store.holds c.args.store.now) (λ files. both_by files (set_words words 1) (set_words words 3)) (λ sets. reported sets.0 sets.1 (word words 5)) sets status bytes c.in-Ok.ensures.told
    (subst (λ (root : List ℕ). reported sets.0 sets.1 root status bytes) named c.in-Ok-reported.ensures.answer)
