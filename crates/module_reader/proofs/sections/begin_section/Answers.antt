use Rattle.std.proofs.Common.{List, ℕ, Err, subst}
use Rattle.text_fronts.specs.Fronts.{trimmed}
use Rattle.module_reader.specs.Frames.{Starts}
use Rattle.module_reader.proofs.Shifting.{starts_begun, starts_fault}
use Rattle.module_reader.proofs.sections.begin_section.Goals as goal

pub returns-in-Err-clause-begins : goal.returns-in-Err-clause-begins
returns-in-Err-clause-begins c =
    let w = c.args.work.now in
    let P : List ℕ → Type 0 = λ text. Starts w.frame.standing text w.frame.at c.args.next (trimmed c.args.word.now) (Err c.in-Err.fault) in
    starts_fault w c.args.next (trimmed c.args.word.now) c.in-Err.fault (subst P c.text_read.ensures c.in-Err.ensures.starts)

pub returns-in-Ok-go_behind-clause-begins : goal.returns-in-Ok-go_behind-clause-begins
returns-in-Ok-go_behind-clause-begins c =
    starts_begun c.args.work.now c.go_behind.new.work c.args.next (trimmed c.args.word.now) c.in-Ok.start c.requires.within.0 c.in-Ok.ensures.within.0 (rw c.text_read.ensures at c.in-Ok.ensures.within.1) c.in-Ok-go_behind.ensures.same
    c.in-Ok-go_behind.ensures.at c.in-Ok-go_behind.ensures.sections (rw c.text_read.ensures at c.in-Ok.ensures.starts)
