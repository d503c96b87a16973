use Rattle.std.proofs.Common.{ℕ, List, arith, IfOk, IfSome, subst}
use Rattle.module_reader.proofs.Told.{cause_later}
use Rattle.tagset_tool.proofs.Asked.{six_verified, told_on, told_stopped, word_at}
use Rattle.tagset_tool.specs.Words.{both_by, set_words, word}
use Rattle.tagset_tool.specs.commands.Verify.{verifies_by}
use Rattle.tagset_tool.proofs.commands.verify.verify_words.Goals as goal

pub returns-in-Err-clause-told : goal.returns-in-Err-clause-told
returns-in-Err-clause-told g c =
    told_stopped (g.S.Store.holds c.args.store.now) (λ files. both_by files (set_words c.args.words.now 2) (set_words c.args.words.now 4)) (λ files sets. verifies_by files (word c.args.words.now 1) sets.0 sets.1)
    c.in-Err.fault c.stop_of.result c.in-Err.ensures.told c.stop_of.ensures.stops

pub returns-in-Ok-clause-told : goal.returns-in-Ok-clause-told
returns-in-Ok-clause-told g c =
    let words = c.args.words.now in
    let six = six_verified words c.requires in
    let named = word_at words 1 c.index-words-1.result (omega arith) c.index-words-1.is in
    told_on (g.S.Store.holds c.args.store.now) (g.S.Store.holds c.read_both.new.store) (λ files. both_by files (set_words words 2) (set_words words 4)) (λ files sets. verifies_by files (word words 1) sets.0 sets.1)
    c.in-Ok.sets c.verified_over.result c.in-Ok.ensures.keeps c.in-Ok.ensures.told
    (subst (λ (name : List ℕ). IfSome (g.S.Store.holds c.read_both.new.store) (λ files. IfOk c.verified_over.result (λ a. verifies_by files name c.in-Ok.sets.0 c.in-Ok.sets.1 a.status a.bytes.items))) named c.verified_over.ensures.told)

pub returns-in-Ok-clause-faults : goal.returns-in-Ok-clause-faults
returns-in-Ok-clause-faults g c = cause_later _ _ _ _ c.read_both.ensures.faults.later c.verified_over.ensures.faults

pub returns-in-Ok-clause-absences : goal.returns-in-Ok-clause-absences
returns-in-Ok-clause-absences g c = cause_later _ _ _ _ c.read_both.ensures.absences.later c.verified_over.ensures.absences
