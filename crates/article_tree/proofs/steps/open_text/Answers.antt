use Rattle.std.proofs.Common.{◌≡◌, ◌∙◌, refl, sym, ap, arith}
use Rattle.article_tree.specs.Held.{EndsApart, state_of}
use Rattle.article_tree.specs.InPlace.{noted}
use Rattle.article_tree.specs.Reading.{State}
use Rattle.article_tree.specs.Tokens.{named}
use Rattle.article_tree.specs.Works.{work_of}
use Rattle.article_tree.proofs.Holding.{stacked_length}
use Rattle.article_tree.proofs.Stepping.{fails, not_opened, noted_empty, noted_other, opens}
use Rattle.article_tree.proofs.steps.open_text.Goals as goal
use Rattle.article_tree.proofs.steps.open_text.Goals.{then-len-eq0+in_ok-put_chars-in-Ok, else-len-eq0}

pub returns-in-Err : goal.returns-in-Err
returns-in-Err c = λ typed.
    let w = work_of c.args.held.now typed c.args.frame.now c.args.waiting.now in
    fails c.args.set.now.entities w (named c.args.name.now) c.args.next (c.requires.stands typed) c.value_stop.result
    (not_opened c.args.set.now.entities w.frame (state_of w.held) c.args.name.now c.in-Err.fault c.value_stop.result c.requires.other (rw c.in_ok-name.ensures at c.in-Err.ensures.text) (rw (c.as_slice.ensures, c.text.ensures.value, c.in_ok-name.ensures) at c.value_stop.ensures))

pub returns-after-len-eq0 : goal.returns-after-len-eq0
returns-after-len-eq0 c = λ typed.
    let w = work_of c.args.held.now typed c.args.frame.now c.args.waiting.now in
    let text = c.in-Ok.entered.text.now in
    let now : State = record (state_of w.held) { spent = c.in-Ok.entered.spent } in
    let h = c.if-len-eq0.held in
    let apart = (c.requires.stands typed).apart in
    let facts : (state_of h ≡ noted now text) × (h.spent ≡ c.in-Ok.entered.spent) × EndsApart h.items.items = elim c.if-len-eq0.branch [
      | then-len-eq0+in_ok-put_chars-in-Ok b ↦ rw b.held-is (let st = rw b.as_slice-then-len-eq0.ensures at b.in_ok-put_chars-in-Ok.ensures.state in (st ∙ noted_empty now text (omega (arith, c.len-in-Ok.ensures, b.if-len-eq0.true)), ap (λ (t : State). t.spent) st, rw b.in_ok-put_chars-in-Ok.ensures.items apart))
      | else-len-eq0 b ↦ rw b.held-is (sym (noted_other now text (λ none. b.if-len-eq0.false (c.len-in-Ok.ensures ∙ none))), refl, apart)
    ] in
    opens c.args.set.now.entities w c.args.name.now c.args.next (c.requires.stands typed) c.replace-outer.new.dest c.push.new.self h text c.in-Ok.entered.spent c.len.result c.requires.other
    (rw c.in_ok-name.ensures at c.in-Ok.ensures.text) c.in-Ok.ensures.within.0 c.in-Ok.ensures.within.1 c.in-Ok.ensures.within.2
    (let a = c.args.held.now.opens.ok.0 in let b = stacked_length c.args.held.now.opens.items in omega (arith, a, b, c.len.ensures))
    (rw c.replace-outer.ensures.after (rw c.in_ok-name.ensures at c.in_ok-inner-in-Ok.ensures)) (rw c.replace-outer.ensures.value at c.in_ok-push-in-Ok.ensures.items) facts.0 facts.1 facts.2
