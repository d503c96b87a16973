use Rattle.std.proofs.Common.{◌∙◌, ap, arith, refl}
use Rattle.tagset_tool.proofs.Asked.{two_words, word_at}
use Rattle.tagset_tool.proofs.Present.{work_present}
use Rattle.tagset_tool.specs.Words.{count_or_1}
use Rattle.tagset_tool.specs.commands.Work.{work_lines}
use Rattle.tagset_tool.proofs.commands.work.work_words.Goals as goal

pub returns-in-Ok-clause-absences : goal.returns-in-Ok-clause-absences
returns-in-Ok-clause-absences c = work_present c.count_or_1.result 0 c.in-Ok.bytes.items (refl, c.in-Ok.ensures)

pub returns-in-Ok-clause-told : goal.returns-in-Ok-clause-told
returns-in-Ok-clause-told c =
    let words = c.args.words.now in
    let two = two_words words c.requires in
    let named = word_at words 1 c.index-words-1.result (omega arith) c.index-words-1.is in
    (refl, c.in-Ok.ensures ∙ ap work_lines (c.count_or_1.ensures.value ∙ ap count_or_1 named))
