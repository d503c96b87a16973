use Rattle.std.proofs.Common.{◌∙◌, ◌+◌, ◌-◌, IsTrue, List, ℕ, drop, subst, sym, take}
use Rattle.decl_set.specs.Asked.{are_chars}
use Rattle.module_reader.proofs.ReadChars.{if_chars, part_chars}
use Rattle.module_reader.proofs.texts.contents_here.Goals as goal

pub returns-clause-chars : goal.returns-clause-chars
returns-clause-chars c =
    let w = c.args.work.now in
    let at = w.frame.at + c.opening_len.result in
    let P : List ℕ → Type 0 = λ text. IsTrue (are_chars (take (c.args.next - 1 - at) (drop at text))) in
    if_chars c.from_slice.result _ c.from_slice.ensures (subst P (sym (c.as_slice-text.ensures ∙ c.text_read.ensures)) (part_chars w (c.args.next - 1 - at) at c.requires.sound))
