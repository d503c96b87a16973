use Rattle.std.proofs.Common.{◌∙◌, None, Some, refl, sym}
use Rattle.std.proofs.lemmas.Bool.{cond-true, cond-false}
use Rattle.jats_chars.specs.Classes.{is_space}
use Rattle.article_tree.specs.Held.{state_of}
use Rattle.article_tree.specs.Reading.{Article, has_root, misplaced}
use Rattle.article_tree.specs.Outcomes.{standing_of}
use Rattle.article_tree.specs.Taken.{StandsAt, tag_of, token_of}
use Rattle.article_tree.specs.Tokens.{letter, section, coded, named, remark, instruction, start, stop}
use Rattle.article_tree.proofs.Standing.{start_raw}
use Rattle.article_tree.proofs.Skipping.{skips_there, start_fails, starts_there, stops_there}
use Rattle.article_tree.proofs.outside.pass_misc.Goals as goal

pub returns-in_default : goal.returns-in_default
returns-in_default c = λ waiting none.
    let a : Article = record { state = state_of c.args.held.now; typed = c.args.typed } in
    stops_there c.args.set.now.entities c.args.held.now c.args.frame.now c.args.typed waiting none c.requires.outside c.requires.other None c.misplaced.result (misplaced (standing_of c.args.frame.now.stand) c.args.frame.now.at a) (rw c.in_default.is at c.in_ok-token.ensures) refl (c.misplaced.ensures c.args.typed)

pub start_element-requires-clause-named : goal.start_element-requires-clause-named
start_element-requires-clause-named c = (start_raw c.args.frame.now.text.now c.args.frame.now.at c.in-Some.next (tag_of c.in-Start.tag) (rw c.in-Start.is at (rw c.in-Some.is at c.in_ok-token.ensures))).0

pub start_element-requires-clause-raw : goal.start_element-requires-clause-raw
start_element-requires-clause-raw c = (start_raw c.args.frame.now.text.now c.args.frame.now.at c.in-Some.next (tag_of c.in-Start.tag) (rw c.in-Start.is at (rw c.in-Some.is at c.in_ok-token.ensures))).1

pub returns-else-is_space : goal.returns-else-is_space
returns-else-is_space c = λ waiting none.
    let t : StandsAt c.args.frame.now.text.now c.args.frame.now.at (token_of c.in-Some.token) c.in-Some.next = rw c.in-Some.is at c.in_ok-token.ensures in
    let h : StandsAt c.args.frame.now.text.now c.args.frame.now.at (letter c.in-Letter.c) c.in-Some.next = rw c.in-Letter.is at t in
    let a : Article = record { state = state_of c.args.held.now; typed = c.args.typed } in
    stops_there c.args.set.now.entities c.args.held.now c.args.frame.now c.args.typed waiting none c.requires.outside c.requires.other (Some (letter c.in-Letter.c, h.rest)) c.misplaced-in-Letter.result (misplaced (standing_of c.args.frame.now.stand) c.args.frame.now.at a) h.is (cond-false (is_space c.in-Letter.c) _ _ (sym c.is_space.ensures ∙ c.if-is_space.false)) (c.misplaced-in-Letter.ensures c.args.typed)

pub returns-then-is_space : goal.returns-then-is_space
returns-then-is_space c = λ waiting none.
    let t : StandsAt c.args.frame.now.text.now c.args.frame.now.at (token_of c.in-Some.token) c.in-Some.next = rw c.in-Some.is at c.in_ok-token.ensures in
    let h : StandsAt c.args.frame.now.text.now c.args.frame.now.at (letter c.in-Letter.c) c.in-Some.next = rw c.in-Letter.is at t in
    skips_there c.args.set.now.entities c.args.held.now c.args.frame.now c.args.typed waiting none c.requires.outside c.requires.other (letter c.in-Letter.c) c.in-Some.next h (cond-true (is_space c.in-Letter.c) _ _ (sym c.is_space.ensures ∙ c.if-is_space.true))

pub returns-in-Remark : goal.returns-in-Remark
returns-in-Remark c = λ waiting none.
    let t : StandsAt c.args.frame.now.text.now c.args.frame.now.at (token_of c.in-Some.token) c.in-Some.next = rw c.in-Some.is at c.in_ok-token.ensures in
    let h : StandsAt c.args.frame.now.text.now c.args.frame.now.at (remark c.in-Remark.field-0.now) c.in-Some.next = rw c.in-Remark.is at t in
    skips_there c.args.set.now.entities c.args.held.now c.args.frame.now c.args.typed waiting none c.requires.outside c.requires.other (remark c.in-Remark.field-0.now) c.in-Some.next h (refl)

pub returns-in-Instruction : goal.returns-in-Instruction
returns-in-Instruction c = λ waiting none.
    let t : StandsAt c.args.frame.now.text.now c.args.frame.now.at (token_of c.in-Some.token) c.in-Some.next = rw c.in-Some.is at c.in_ok-token.ensures in
    let h : StandsAt c.args.frame.now.text.now c.args.frame.now.at (instruction c.in-Instruction.field-0.now c.in-Instruction.field-1.now) c.in-Some.next = rw c.in-Instruction.is at t in
    skips_there c.args.set.now.entities c.args.held.now c.args.frame.now c.args.typed waiting none c.requires.outside c.requires.other (instruction c.in-Instruction.field-0.now c.in-Instruction.field-1.now) c.in-Some.next h (refl)

pub returns-then-has_root : goal.returns-then-has_root
returns-then-has_root c = λ waiting none.
    let t : StandsAt c.args.frame.now.text.now c.args.frame.now.at (token_of c.in-Some.token) c.in-Some.next = rw c.in-Some.is at c.in_ok-token.ensures in
    let h : StandsAt c.args.frame.now.text.now c.args.frame.now.at (start (tag_of c.in-Start.tag)) c.in-Some.next = rw c.in-Start.is at t in
    let a : Article = record { state = state_of c.args.held.now; typed = c.args.typed } in
    stops_there c.args.set.now.entities c.args.held.now c.args.frame.now c.args.typed waiting none c.requires.outside c.requires.other (Some (start (tag_of c.in-Start.tag), h.rest)) c.misplaced-then-has_root.result (misplaced (standing_of c.args.frame.now.stand) c.args.frame.now.at a) h.is (cond-true (has_root (state_of c.args.held.now).items) _ _ (sym c.has_root.ensures ∙ c.if-has_root.true)) (c.misplaced-then-has_root.ensures c.args.typed)

pub returns-in-Section : goal.returns-in-Section
returns-in-Section c = λ waiting none.
    let t : StandsAt c.args.frame.now.text.now c.args.frame.now.at (token_of c.in-Some.token) c.in-Some.next = rw c.in-Some.is at c.in_ok-token.ensures in
    let h : StandsAt c.args.frame.now.text.now c.args.frame.now.at (section c.in-Section.field-0.now) c.in-Some.next = rw c.in-Section.is at t in
    let a : Article = record { state = state_of c.args.held.now; typed = c.args.typed } in
    stops_there c.args.set.now.entities c.args.held.now c.args.frame.now c.args.typed waiting none c.requires.outside c.requires.other (Some (section c.in-Section.field-0.now, h.rest)) c.misplaced-in-Section.result (misplaced (standing_of c.args.frame.now.stand) c.args.frame.now.at a) h.is (refl) (c.misplaced-in-Section.ensures c.args.typed)

pub returns-in-Coded : goal.returns-in-Coded
returns-in-Coded c = λ waiting none.
    let t : StandsAt c.args.frame.now.text.now c.args.frame.now.at (token_of c.in-Some.token) c.in-Some.next = rw c.in-Some.is at c.in_ok-token.ensures in
    let h : StandsAt c.args.frame.now.text.now c.args.frame.now.at (coded c.in-Coded.field-0) c.in-Some.next = rw c.in-Coded.is at t in
    let a : Article = record { state = state_of c.args.held.now; typed = c.args.typed } in
    stops_there c.args.set.now.entities c.args.held.now c.args.frame.now c.args.typed waiting none c.requires.outside c.requires.other (Some (coded c.in-Coded.field-0, h.rest)) c.misplaced-in-Coded.result (misplaced (standing_of c.args.frame.now.stand) c.args.frame.now.at a) h.is (refl) (c.misplaced-in-Coded.ensures c.args.typed)

pub returns-in-Named : goal.returns-in-Named
returns-in-Named c = λ waiting none.
    let t : StandsAt c.args.frame.now.text.now c.args.frame.now.at (token_of c.in-Some.token) c.in-Some.next = rw c.in-Some.is at c.in_ok-token.ensures in
    let h : StandsAt c.args.frame.now.text.now c.args.frame.now.at (named c.in-Named.field-0.now) c.in-Some.next = rw c.in-Named.is at t in
    let a : Article = record { state = state_of c.args.held.now; typed = c.args.typed } in
    stops_there c.args.set.now.entities c.args.held.now c.args.frame.now c.args.typed waiting none c.requires.outside c.requires.other (Some (named c.in-Named.field-0.now, h.rest)) c.misplaced-in-Named.result (misplaced (standing_of c.args.frame.now.stand) c.args.frame.now.at a) h.is (refl) (c.misplaced-in-Named.ensures c.args.typed)

pub returns-in-Stop : goal.returns-in-Stop
returns-in-Stop c = λ waiting none.
    let t : StandsAt c.args.frame.now.text.now c.args.frame.now.at (token_of c.in-Some.token) c.in-Some.next = rw c.in-Some.is at c.in_ok-token.ensures in
    let h : StandsAt c.args.frame.now.text.now c.args.frame.now.at (stop c.in-Stop.field-0.now) c.in-Some.next = rw c.in-Stop.is at t in
    let a : Article = record { state = state_of c.args.held.now; typed = c.args.typed } in
    stops_there c.args.set.now.entities c.args.held.now c.args.frame.now c.args.typed waiting none c.requires.outside c.requires.other (Some (stop c.in-Stop.field-0.now, h.rest)) c.misplaced-in-Stop.result (misplaced (standing_of c.args.frame.now.stand) c.args.frame.now.at a) h.is (refl) (c.misplaced-in-Stop.ensures c.args.typed)

pub returns-in-Err : goal.returns-in-Err
returns-in-Err c = λ waiting none.
    let t : StandsAt c.args.frame.now.text.now c.args.frame.now.at (token_of c.in-Some.token) c.in-Some.next = rw c.in-Some.is at c.in_ok-token.ensures in
    start_fails c.args.set.now.entities c.args.held.now c.args.frame.now c.args.typed waiting none c.requires.outside c.requires.other (tag_of c.in-Start.tag) c.in-Some.next (rw c.in-Start.is at t) c.in-Err.fault (sym c.has_root.ensures ∙ c.if-has_root.false) c.in-Err.ensures

pub returns-in-Ok : goal.returns-in-Ok
returns-in-Ok c = λ waiting none.
    let t : StandsAt c.args.frame.now.text.now c.args.frame.now.at (token_of c.in-Some.token) c.in-Some.next = rw c.in-Some.is at c.in_ok-token.ensures in
    starts_there c.args.set.now.entities c.args.held.now c.args.frame.now c.args.typed waiting none c.requires.outside c.requires.other (tag_of c.in-Start.tag) c.in-Some.next (rw c.in-Start.is at t) c.start_element.new.held (sym c.has_root.ensures ∙ c.if-has_root.false) c.in-Ok.ensures.0 c.in-Ok.ensures.1
