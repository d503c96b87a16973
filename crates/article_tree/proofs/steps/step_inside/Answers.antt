use Rattle.std.proofs.Common.{[], ◌∷◌, false, refl}
use Rattle.jats_chars.specs.Classes.{is_space}
use Rattle.document_trees.specs.Trees as tree
use Rattle.article_tree.specs.Held.{state_of}
use Rattle.article_tree.specs.Taken.{StandsAt, tag_of, token_of}
use Rattle.article_tree.specs.Tokens.{letter, section, coded, remark, instruction, start, stop}
use Rattle.article_tree.specs.Works.{work_of}
use Rattle.article_tree.specs.Outcomes.{standing_of}
use Rattle.article_tree.proofs.Standing.{named_name, start_raw, target_name}
use Rattle.article_tree.proofs.Stepping.{advances, ended_rises, fails, no_token, put_advances, started_rises}
use Rattle.article_tree.proofs.steps.step_inside.Goals as goal
use Rattle.article_tree.proofs.steps.step_inside.Goals.{in-Letter+in_ok-put_chars-in-Letter, in-Section+in_ok-put_chars-in-Section, in-Coded+in_ok-put_chars-in-Coded, in-Remark+in_ok-put_comment-in-Remark, in-Instruction+in_ok-put_instruction-in-Instruction, in-Start+in-Ok, in-Stop+in-Ok-end_element}

pub returns-in_default : goal.returns-in_default
returns-in_default c = λ typed.
    no_token c.args.set.now.entities (work_of c.args.held.now typed c.args.frame.now c.args.waiting.now) c.malformed.result c.requires.here c.requires.inside (rw c.in_default.is at c.in_ok-token.ensures) c.malformed.ensures

pub refer-requires-clause-named : goal.refer-requires-clause-named
refer-requires-clause-named c = named_name c.args.frame.now.text.now c.args.frame.now.at c.in-Some.next c.in-Named.name.now (rw c.in-Named.is at (rw c.in-Some.is at c.in_ok-token.ensures))

pub put_instruction-requires-clause-named : goal.put_instruction-requires-clause-named
put_instruction-requires-clause-named c = target_name c.args.frame.now.text.now c.args.frame.now.at c.in-Some.next c.in-Instruction.target.now c.in-Instruction.body.now (rw c.in-Instruction.is at (rw c.in-Some.is at c.in_ok-token.ensures))

pub start_element-requires-clause-named : goal.start_element-requires-clause-named
start_element-requires-clause-named c = (start_raw c.args.frame.now.text.now c.args.frame.now.at c.in-Some.next (tag_of c.in-Start.tag) (rw c.in-Start.is at (rw c.in-Some.is at c.in_ok-token.ensures))).0

pub start_element-requires-clause-raw : goal.start_element-requires-clause-raw
start_element-requires-clause-raw c = (start_raw c.args.frame.now.text.now c.args.frame.now.at c.in-Some.next (tag_of c.in-Start.tag) (rw c.in-Start.is at (rw c.in-Some.is at c.in_ok-token.ensures))).1

pub returns-in-Err : goal.returns-in-Err
returns-in-Err c = λ typed.
    let w = work_of c.args.held.now typed c.args.frame.now c.args.waiting.now in
    fails c.args.set.now.entities w (start (tag_of c.in-Start.tag)) c.in-Some.next (record { apart = c.requires.apart; here = c.requires.here; inside = c.requires.inside; stands = rw c.in-Start.is at (rw c.in-Some.is at c.in_ok-token.ensures) }) c.in-Err.fault c.in-Err.ensures

pub returns-in-Err-end_element : goal.returns-in-Err-end_element
returns-in-Err-end_element c = λ typed.
    let w = work_of c.args.held.now typed c.args.frame.now c.args.waiting.now in
    fails c.args.set.now.entities w (stop c.in-Stop.name.now) c.in-Some.next (record { apart = c.requires.apart; here = c.requires.here; inside = c.requires.inside; stands = rw c.in-Stop.is at (rw c.in-Some.is at c.in_ok-token.ensures) }) c.in-Err-end_element.fault c.in-Err-end_element.ensures

pub returns : goal.returns
returns c = λ typed.
    let w = work_of c.args.held.now typed c.args.frame.now c.args.waiting.now in
    let E = c.args.set.now.entities in
    let n = c.in-Some.next in
    let t : StandsAt c.args.frame.now.text.now c.args.frame.now.at (token_of c.in-Some.token) n = rw c.in-Some.is at c.in_ok-token.ensures in
    elim c.match-token.branch [
      | in-Letter+in_ok-put_chars-in-Letter b ↦ rw b.held-is (put_advances E w (letter b.in-Letter.c) n (record { apart = c.requires.apart; here = c.requires.here; inside = c.requires.inside; stands = rw b.in-Letter.is at t }) b.put_chars.new.held (tree.chars (b.in-Letter.c ∷ []) (is_space b.in-Letter.c) tree.nothing) refl (rw (b.as_slice.ensures, b.is_space.ensures) at b.in_ok-put_chars-in-Letter.ensures.state) (rw b.in_ok-put_chars-in-Letter.ensures.items c.requires.apart))
      | in-Section+in_ok-put_chars-in-Section b ↦ rw b.held-is (put_advances E w (section b.in-Section.text.now) n (record { apart = c.requires.apart; here = c.requires.here; inside = c.requires.inside; stands = rw b.in-Section.is at t }) b.put_chars-in-Section.new.held (tree.chars b.in-Section.text.now false tree.nothing) refl b.in_ok-put_chars-in-Section.ensures.state (rw b.in_ok-put_chars-in-Section.ensures.items c.requires.apart))
      | in-Coded+in_ok-put_chars-in-Coded b ↦ rw b.held-is (put_advances E w (coded b.in-Coded.c) n (record { apart = c.requires.apart; here = c.requires.here; inside = c.requires.inside; stands = rw b.in-Coded.is at t }) b.put_chars-in-Coded.new.held (tree.chars (b.in-Coded.c ∷ []) false tree.nothing) refl (rw b.as_slice-in-Coded.ensures at b.in_ok-put_chars-in-Coded.ensures.state) (rw b.in_ok-put_chars-in-Coded.ensures.items c.requires.apart))
      | in-Remark+in_ok-put_comment-in-Remark b ↦ rw b.held-is (put_advances E w (remark b.in-Remark.text.now) n (record { apart = c.requires.apart; here = c.requires.here; inside = c.requires.inside; stands = rw b.in-Remark.is at t }) b.put_comment.new.held (tree.comment b.in-Remark.text.now tree.nothing) refl b.in_ok-put_comment-in-Remark.ensures.state b.in_ok-put_comment-in-Remark.ensures.apart)
      | in-Instruction+in_ok-put_instruction-in-Instruction b ↦ rw b.held-is (put_advances E w (instruction b.in-Instruction.target.now b.in-Instruction.body.now) n (record { apart = c.requires.apart; here = c.requires.here; inside = c.requires.inside; stands = rw b.in-Instruction.is at t }) b.put_instruction.new.held (tree.pi b.in-Instruction.target.now b.in-Instruction.body.now tree.nothing) refl b.in_ok-put_instruction-in-Instruction.ensures.state b.in_ok-put_instruction-in-Instruction.ensures.apart)
      | in-Start+in-Ok b ↦ rw b.held-is (advances E w (start (tag_of b.in-Start.tag)) n (record { apart = c.requires.apart; here = c.requires.here; inside = c.requires.inside; stands = rw b.in-Start.is at t }) b.start_element.new.held b.in-Ok.ensures.0 (started_rises E w.frame.names (standing_of w.frame.stand) w.frame.at (state_of w.held) (tag_of b.in-Start.tag) (state_of b.start_element.new.held) b.in-Ok.ensures.0) b.in-Ok.ensures.1)
      | in-Stop+in-Ok-end_element b ↦ rw b.held-is (advances E w (stop b.in-Stop.name.now) n (record { apart = c.requires.apart; here = c.requires.here; inside = c.requires.inside; stands = rw b.in-Stop.is at t }) b.end_element.new.held b.in-Ok-end_element.ensures.0 (ended_rises w.frame.base (standing_of w.frame.stand) w.frame.at (state_of w.held) b.in-Stop.name.now (state_of b.end_element.new.held) b.in-Ok-end_element.ensures.0) b.in-Ok-end_element.ensures.1)
    ]
