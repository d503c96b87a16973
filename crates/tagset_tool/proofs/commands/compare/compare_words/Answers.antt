use Rattle.std.proofs.Common.{◌∙◌, ℕ, List, ap, arith, subst}
use Rattle.tagset_tool.proofs.Asked.{seven_words, told_one, told_stopped, word_at}
use Rattle.tagset_tool.proofs.Causes.{no_cause}
use Rattle.tagset_tool.proofs.Present.{sets_present}
use Rattle.tagset_tool.specs.Words.{both_by, cap_or_0, set_words, word}
use Rattle.tagset_tool.specs.commands.Compare.{over_sets}
use Rattle.tagset_tool.proofs.commands.compare.compare_words.Goals as goal

pub returns-in-Ok-compared-clause-absences : goal.returns-in-Ok-compared-clause-absences
returns-in-Ok-compared-clause-absences g c =
    no_cause _ _ _ c.read_both.ensures.absences.later
    (sets_present c.in-Ok.sets.0 c.in-Ok.sets.1 c.index-words-5.result c.cap_or_0-cap.result c.in-Ok-compared.answer.status c.in-Ok-compared.answer.bytes.items c.in-Ok-compared.ensures.answer)

pub returns-in-Err-clause-told : goal.returns-in-Err-clause-told
returns-in-Err-clause-told g c =
    told_stopped (g.S.Store.holds c.args.store.now) (λ files. both_by files (set_words c.args.words.now 1) (set_words c.args.words.now 3))
    (λ files sets. over_sets sets.0 sets.1 (word c.args.words.now 5) (cap_or_0 (word c.args.words.now 6))) c.in-Err.fault c.stop_of.result c.in-Err.ensures.told c.stop_of.ensures.stops

pub returns-in-Ok-compared-clause-told : goal.returns-in-Ok-compared-clause-told
returns-in-Ok-compared-clause-told g c =
    let words = c.args.words.now in
    let seven = seven_words words c.requires in
    let named = word_at words 5 c.index-words-5.result (omega arith) c.index-words-5.is in
    let capped = word_at words 6 c.index-words-6.result (omega arith) c.index-words-6.is in
    let sets = c.in-Ok.sets in
    let status = c.in-Ok-compared.answer.status in
    let bytes = c.in-Ok-compared.answer.bytes.items in
    told_one (g.S.Store.holds c.args.store.now) (λ files. both_by files (set_words words 1) (set_words words 3)) (λ sets. over_sets sets.0 sets.1 (word words 5) (cap_or_0 (word words 6))) sets status bytes c.in-Ok.ensures.told
    (subst (λ (root : List ℕ). over_sets sets.0 sets.1 root (cap_or_0 (word words 6)) status bytes) named
    (subst (λ (cap : ℕ). over_sets sets.0 sets.1 c.index-words-5.result cap status bytes) (c.cap_or_0-cap.ensures.value ∙ ap cap_or_0 capped) c.in-Ok-compared.ensures.answer))
