use Rattle.std.proofs.Common.{arith, rules, ℕ, Option, ◌≡◌, ◌++◌, ◌∷◌, [], replicate, false, length, ap, ◌∙◌, subst}
use Rattle.std.proofs.lemmas.Grind.{common_steps}
use Rattle.model_inclusion.specs.Reaching.{Member, visit}
use Rattle.tagset_report.specs.Useful.{count_numbers, next_numbers}
use Rattle.tagset_report.proofs.Search.{starts, bound, following, smaller, ends}
use Rattle.tagset_report.proofs.useful.reached.Goals as goal

pub loop-number-init : goal.loop-number-init
loop-number-init c =
    let q : c.in_ok-seen.seen.items ≡ replicate (count_numbers c.args.set.now) false = search (rules, common_steps) in
    starts c.args.set.now c.count.ensures.kept c.args.rows.now c.args.root.now c.in_ok-seen.seen.items c.push.new.self.items q
    (c.in_ok-push.ensures.items ∙ ap (λ k. k ++ 0 ∷ []) c.new-stack.ensures.items)

pub mark_next-requires : goal.mark_next-requires
mark_next-requires c = λ y m.
    bound c.args.set.now c.count.ensures.kept c.args.rows.now c.args.root.now c.loop-number.seen.items c.loop-number.stack.items c.pop.new.self.items c.in-Some.number
    c.loop-number.invariant c.in-Some.ensures.items y
    (subst (λ (o : Option ℕ). Member y (next_numbers c.args.set.now c.args.rows.now o c.in-Some.number)) c.index_of-place.ensures m)

pub loop-number-smaller : goal.loop-number-smaller
loop-number-smaller c =
    smaller c.args.set.now c.count.ensures.kept c.args.rows.now c.args.root.now c.loop-number.seen.items c.loop-number.stack.items c.pop.new.self.items c.in-Some.number
    c.loop-number.invariant c.in-Some.ensures.items c.mark_next.new.seen.items c.mark_next.new.stack.items
    (c.in_ok-mark_next.ensures ∙ ap (λ (o : Option ℕ). visit (next_numbers c.args.set.now c.args.rows.now o c.in-Some.number) (c.loop-number.seen.items, c.pop.new.self.items)) c.index_of-place.ensures)

pub loop-number-preserved : goal.loop-number-preserved
loop-number-preserved c =
    following c.args.set.now c.count.ensures.kept c.args.rows.now c.args.root.now c.loop-number.seen.items c.loop-number.stack.items c.pop.new.self.items c.in-Some.number
    c.loop-number.invariant c.in-Some.ensures.items c.mark_next.new.seen.items c.mark_next.new.stack.items
    (c.in_ok-mark_next.ensures ∙ ap (λ (o : Option ℕ). visit (next_numbers c.args.set.now c.args.rows.now o c.in-Some.number) (c.loop-number.seen.items, c.pop.new.self.items)) c.index_of-place.ensures)

pub returns : goal.returns
returns c =
    let e : length c.loop-number.stack.items ≡ 0 = omega (arith, c.in_default.ensures.cases.0, c.loop-number.stack.ok) in
    ends c.args.set.now c.count.ensures.kept c.args.rows.now c.args.root.now c.loop-number.seen.items c.loop-number.stack.items c.loop-number.invariant e
