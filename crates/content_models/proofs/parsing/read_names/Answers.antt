use Rattle.std.proofs.Common.{arith, ◌≡◌, ◌≤◌, ◌+◌, ◌-◌, ◌<◌, ◌++◌, ◌∷◌, [], length, length-append, drop, get_or, sym, ap, ◌∙◌, subst, Some}
use Rattle.std.specs.Prelude.{option_map, IfSome}
use Rattle.content_models.specs.Given.{word_in}
use Rattle.content_models.specs.Reading.{bare, more, skip}
use Rattle.content_models.proofs.Groups.{more_some, more_close}
use Rattle.content_models.proofs.Places.{at_place}
use Rattle.content_models.proofs.parsing.read_names.Goals as goal
use Rattle.content_models.proofs.parsing.read_names.Goals.{then-loop-end-test+else-text-end-ne41, else-loop-end-test}

pub loop-end-preserved : goal.loop-end-preserved
loop-end-preserved c =
    let text = c.args.text.now in
    let n = length text - length c.loop-end.list in
    let word = c.in-Some.word in
    let h : (option_map (word_in text) c.in_ok-read_name.field-0 ≡ bare (drop c.skip-start.result text)) × IfSome c.in_ok-read_name.field-0 (λ f. (c.skip-start.result < f.end) × (f.end ≤ length text)) =
    c.in_ok-read_name.ensures in
    let e : bare (skip (drop (c.loop-end.end + 1) text)) ≡ Some (word_in text word) =
    ap bare (sym c.skip-start.ensures.value) ∙ sym h.0 ∙ ap (option_map (word_in text)) c.in-Some.is in
    let w : (c.skip-start.result < word.end) × (word.end ≤ length text) =
    subst (λ o. IfSome o (λ f. (c.skip-start.result < f.end) × (f.end ≤ length text))) c.in-Some.is h.1 in
    let p : c.push.new.self ≡ c.loop-end.list ++ word.name ∷ [] = c.in_ok-push-in-Some.ensures.ok in
    let more_by_one : length c.push.new.self ≡ length c.loop-end.list + 1 = ap length p ∙ length-append c.loop-end.list (word.name ∷ []) in
    let from : c.skip-start.result ≤ c.skip-end.result = omega arith in
    let inside : c.loop-end.end < length text = omega arith in
    let left : 0 < n = omega arith in
    let fuel : length text - length c.push.new.self ≡ n - 1 = omega arith in
    let closed_not : get_or text c.loop-end.end 0 ≡ 41 → ⊥ =
    (λ q. c.if-text-end-ne41.true (sym (at_place text c.loop-end.end c.index-text-end.result inside c.index-text-end.is) ∙ q)) in
    let same : get_or text c.loop-end.end 0 ≡ 124 =
    at_place text c.loop-end.end c.index-text-end-in-loop-end.result inside c.index-text-end-in-loop-end.is ∙ c.if-text-end-ne124.false in
    record {
      within = c.skip-end.ensures.within;
      onward = omega arith;
      few = omega arith;
      value = ap (λ m. more bare m 124 c.push.new.self (drop c.skip-end.result text)) fuel
          ∙ ap (λ k. more bare (n - 1) 124 k (drop c.skip-end.result text)) p
          ∙ ap (λ k. more bare (n - 1) 124 (c.loop-end.list ++ word.name ∷ []) k) c.skip-end.ensures.value
          ∙ sym (more_some bare n 124 c.loop-end.list text c.loop-end.end (word_in text word) inside left closed_not same e)
          ∙ c.loop-end.invariant.value;
    }

pub returns : goal.returns
returns c =
    let text = c.args.text.now in
    let inside : c.loop-end.end < length text = omega arith in
    let closes : get_or text c.loop-end.end 0 ≡ 41 = elim c.loop-end-test.branch [
      | then-loop-end-test+else-text-end-ne41 w ↦ at_place text c.loop-end.end w.index-text-end.result inside w.index-text-end.is ∙ w.if-text-end-ne41.false
      | else-loop-end-test w ↦ absurd (omega arith)
    ] in (
      sym (more_close bare (length text - length c.loop-end.list) 124 c.loop-end.list text c.loop-end.end inside closes) ∙ c.loop-end.invariant.value,
      (omega arith, omega arith),
    )
