use Rattle.std.proofs.Common.{◌∙◌, ℕ, List, ap, arith, subst}
use Rattle.tagset_tool.proofs.Asked.{five_least, told_one, told_stopped, word_at}
use Rattle.tagset_tool.proofs.Causes.{no_cause}
use Rattle.tagset_tool.proofs.Present.{least_present}
use Rattle.tagset_tool.specs.Words.{cap_or_0, set_by, set_words, word}
use Rattle.tagset_tool.specs.commands.Least.{least_in}
use Rattle.tagset_tool.proofs.commands.least.least_words.Goals as goal

pub returns-in-Ok-least_in-clause-absences : goal.returns-in-Ok-least_in-clause-absences
returns-in-Ok-least_in-clause-absences g c =
    no_cause _ _ _ c.read_words.ensures.absences.later (least_present c.index-words-3.result c.cap_or_0-cap.result c.in-Ok.set c.in-Ok-least_in.answer.status c.in-Ok-least_in.answer.bytes.items c.in-Ok-least_in.ensures.answer)

pub returns-in-Err-clause-told : goal.returns-in-Err-clause-told
returns-in-Err-clause-told g c =
    told_stopped (g.S.Store.holds c.args.store.now) (λ files. set_by files (set_words c.args.words.now 1)) (λ files. least_in (word c.args.words.now 3) (cap_or_0 (word c.args.words.now 4)))
    c.in-Err.fault c.stop_of.result c.in-Err.ensures.told c.stop_of.ensures.stops

pub returns-in-Ok-least_in-clause-told : goal.returns-in-Ok-least_in-clause-told
returns-in-Ok-least_in-clause-told g c =
    let words = c.args.words.now in
    let five = five_least words c.requires in
    let named = word_at words 3 c.index-words-3.result (omega arith) c.index-words-3.is in
    let capped = word_at words 4 c.index-words-4.result (omega arith) c.index-words-4.is in
    let status = c.in-Ok-least_in.answer.status in
    let bytes = c.in-Ok-least_in.answer.bytes.items in
    told_one (g.S.Store.holds c.args.store.now) (λ files. set_by files (set_words words 1)) (least_in (word words 3) (cap_or_0 (word words 4))) c.in-Ok.set status bytes c.in-Ok.ensures.told
    (subst (λ (root : List ℕ). least_in root (cap_or_0 (word words 4)) c.in-Ok.set status bytes) named
    (subst (λ (cap : ℕ). least_in c.index-words-3.result cap c.in-Ok.set status bytes) (c.cap_or_0-cap.ensures.value ∙ ap cap_or_0 capped) c.in-Ok-least_in.ensures.answer))
