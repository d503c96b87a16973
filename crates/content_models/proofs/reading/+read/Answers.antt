use Rattle.std.proofs.Common.{arith, ◌≡◌, ◌≤◌, ◌+◌, ◌-◌, ◌<◌, ◌++◌, ◌∷◌, [], length, length-append, drop, get_or, sym, ap, ◌∙◌, subst, Some}
use Rattle.std.specs.Prelude.{option_map, IfSome}
use Rattle.content_models.specs.Given.{Gives, found_in}
use Rattle.content_models.specs.Reading.{read, more, skip}
use Rattle.content_models.proofs.Groups.{read_other, grouped_some, more_some, more_close, gives_from}
use Rattle.content_models.proofs.Places.{at_place}
use Rattle.content_models.proofs.reading.+read.Goals as goal
use Rattle.content_models.proofs.reading.+read.Goals.{read-else-depth-gt0-via-then-depth-gt0+else-text-at-eq40, read-else-depth-gt0-via-else-depth-gt0}
use Rattle.content_models.proofs.reading.+read.Goals.{read_more-then-loop-end-test+else-text-end-ne41, read_more-else-loop-end-test}

pub read-returns-else-depth-gt0 : goal.read-returns-else-depth-gt0
read-returns-else-depth-gt0 t c =
    let text = c.args.text.now in
    let within : c.args.at < length text = omega arith in
    let same : (0 < c.args.depth → get_or text c.args.at 0 ≡ 40 → ⊥) = elim c.else-depth-gt0.branch [
      | read-else-depth-gt0-via-then-depth-gt0+else-text-at-eq40 w ↦ (λ z e. w.if-text-at-eq40.false (sym (at_place text c.args.at w.index-text-at.result within w.index-text-at.is) ∙ e))
      | read-else-depth-gt0-via-else-depth-gt0 w ↦ (λ z e. omega arith)
    ] in
    subst (λ k. Gives text c.args.at k c.read_named.result) (sym (read_other (length text) c.args.depth text c.args.at within same)) c.read_named.ensures

pub read_group-returns-in-Some : goal.read_group-returns-in-Some
read_group-returns-in-Some t c =
    let text = c.args.text.now in
    let one = read (length text) c.args.depth in
    let h : (option_map (found_in text) c.in_ok-read.field-0 ≡ one (drop c.skip-start.result text)) × IfSome c.in_ok-read.field-0 (λ f. (c.skip-start.result < f.end) × (f.end ≤ length text)) =
    c.in_ok-read.ensures in
    let e : one (skip (drop c.args.at text)) ≡ Some (found_in text c.in-Some.first) =
    ap one (sym c.skip-start.ensures.value) ∙ sym h.0 ∙ ap (option_map (found_in text)) c.in-Some.is in
    let w : (c.skip-start.result < c.in-Some.first.end) × (c.in-Some.first.end ≤ length text) =
    subst (λ o. IfSome o (λ f. (c.skip-start.result < f.end) × (f.end ≤ length text))) c.in-Some.is h.1 in
    subst (λ k. Gives text c.args.at k c.read_group_by.result) (sym (grouped_some one (length text) (drop c.args.at text) (found_in text c.in-Some.first) e))
    (gives_from text c.args.at c.in-Some.first.end _ c.read_group_by.result (omega arith) c.read_group_by.ensures)

pub read_more-loop-end-preserved : goal.read_more-loop-end-preserved
read_more-loop-end-preserved t c =
    let text = c.args.text.now in
    let one = read (length text) c.args.depth in
    let n = length text + 1 - length c.loop-end.list in
    let found = c.in-Some.found in
    let h : (option_map (found_in text) c.in_ok-read.field-0 ≡ one (drop c.skip-start.result text)) × IfSome c.in_ok-read.field-0 (λ f. (c.skip-start.result < f.end) × (f.end ≤ length text)) =
    c.in_ok-read.ensures in
    let e : one (skip (drop (c.loop-end.end + 1) text)) ≡ Some (found_in text found) =
    ap one (sym c.skip-start.ensures.value) ∙ sym h.0 ∙ ap (option_map (found_in text)) c.in-Some.is in
    let w : (c.skip-start.result < found.end) × (found.end ≤ length text) =
    subst (λ o. IfSome o (λ f. (c.skip-start.result < f.end) × (f.end ≤ length text))) c.in-Some.is h.1 in
    let p : c.push.new.self ≡ c.loop-end.list ++ found.part ∷ [] = c.in_ok-push-in-Some.ensures.ok in
    let more_by_one : length c.push.new.self ≡ length c.loop-end.list + 1 = ap length p ∙ length-append c.loop-end.list (found.part ∷ []) in
    let from : c.skip-start.result ≤ c.skip-end.result = omega arith in
    let inside : c.loop-end.end < length text = omega arith in
    let left : 0 < n = omega arith in
    let closed_not : get_or text c.loop-end.end 0 ≡ 41 → ⊥ =
    (λ q. c.if-text-end-ne41.true (sym (at_place text c.loop-end.end c.index-text-end.result inside c.index-text-end.is) ∙ q)) in
    let same : get_or text c.loop-end.end 0 ≡ c.args.separator =
    at_place text c.loop-end.end c.index-text-end-in-loop-end.result inside c.index-text-end-in-loop-end.is ∙ c.if-text-end.false in
    let fuel : length text + 1 - length c.push.new.self ≡ n - 1 = omega arith in
    record {
      within = c.skip-end.ensures.within;
      onward = omega arith;
      few = omega arith;
      value = ap (λ m. more one m c.args.separator c.push.new.self (drop c.skip-end.result text)) fuel
          ∙ ap (λ k. more one (n - 1) c.args.separator k (drop c.skip-end.result text)) p
          ∙ ap (λ k. more one (n - 1) c.args.separator (c.loop-end.list ++ found.part ∷ []) k) c.skip-end.ensures.value
          ∙ sym (more_some one n c.args.separator c.loop-end.list text c.loop-end.end (found_in text found) inside left closed_not same e)
          ∙ c.loop-end.invariant.value;
    }

pub read_more-returns : goal.read_more-returns
read_more-returns t c =
    let text = c.args.text.now in
    let one = read (length text) c.args.depth in
    let inside : c.loop-end.end < length text = omega arith in
    let closes : get_or text c.loop-end.end 0 ≡ 41 = elim c.loop-end-test.branch [
      | read_more-then-loop-end-test+else-text-end-ne41 w ↦ at_place text c.loop-end.end w.index-text-end.result inside w.index-text-end.is ∙ w.if-text-end-ne41.false
      | read_more-else-loop-end-test w ↦ absurd (omega arith)
    ] in (
      sym (more_close one (length text + 1 - length c.loop-end.list) c.args.separator c.loop-end.list text c.loop-end.end inside closes) ∙ c.loop-end.invariant.value,
      (omega arith, omega arith),
    )
