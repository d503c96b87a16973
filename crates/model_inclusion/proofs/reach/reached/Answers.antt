use Rattle.std.proofs.Common.{arith, rules, ◌≡◌, ◌<◌, ◌/◌, ◌*◌, replicate, false, length, ap, ◌∙◌, ◌++◌, ◌∷◌, []}
use Rattle.std.proofs.lemmas.Grind.{common_steps}
use Rattle.model_inclusion.proofs.Turning.{starts, first_within, seen_within, following, smaller, ends}
use Rattle.model_inclusion.proofs.reach.reached.Goals as goal

pub loop-pair-init : goal.loop-pair-init
loop-pair-init c =
    let q : c.in_ok-seen.seen.items ≡ replicate (length c.args.firsts.now * length c.args.seconds.now) false = search (rules, common_steps) in
    record {
      works = starts c.args.firsts.now c.args.seconds.now c.args.names c.requires.first c.requires.second c.requires.within
          c.in_ok-seen.seen.items c.push.new.self.items q (c.in_ok-push.ensures.items ∙ ap (λ k. k ++ 0 ∷ []) c.new-stack.ensures.items);
      blank = search (rules, common_steps);
    }

pub bounds-firsts-pair : goal.bounds-firsts-pair
bounds-firsts-pair c =
    first_within c.args.firsts.now c.args.seconds.now c.args.names c.requires.first c.requires.second c.requires.within
    c.loop-pair.seen.items c.loop-pair.stack.items c.pop.new.self.items c.in-Some.pair c.loop-pair.invariant.works c.in-Some.ensures.items

pub offset_bounds-firsts-pair : goal.offset_bounds-firsts-pair
offset_bounds-firsts-pair c =
    let l : c.in-Some.pair / length c.args.seconds.now < length c.args.firsts.now =
    first_within c.args.firsts.now c.args.seconds.now c.args.names c.requires.first c.requires.second c.requires.within
    c.loop-pair.seen.items c.loop-pair.stack.items c.pop.new.self.items c.in-Some.pair c.loop-pair.invariant.works c.in-Some.ensures.items in
    omega (arith, l, c.requires.first_small)

pub visit_rows-requires-clause-within : goal.visit_rows-requires-clause-within
visit_rows-requires-clause-within c =
    seen_within c.args.firsts.now c.args.seconds.now c.args.names c.requires.first c.requires.second c.requires.within
    c.loop-pair.seen.items c.loop-pair.stack.items c.pop.new.self.items c.in-Some.pair c.loop-pair.invariant.works c.in-Some.ensures.items
    c.as_slice.result.now c.as_slice-in-Some.result.now c.index-firsts-pair.result c.index-seconds-pair.result c.loop-pair.steps.items
    c.index-firsts-pair.is c.index-seconds-pair.is c.as_slice.ensures c.as_slice-in-Some.ensures c.loop-pair.invariant.blank

pub loop-pair-preserved : goal.loop-pair-preserved
loop-pair-preserved c = record {
  works = following c.args.firsts.now c.args.seconds.now c.args.names c.requires.first c.requires.second c.requires.within
      c.loop-pair.seen.items c.loop-pair.stack.items c.pop.new.self.items c.in-Some.pair c.loop-pair.invariant.works c.in-Some.ensures.items
      c.as_slice.result.now c.as_slice-in-Some.result.now c.index-firsts-pair.result c.index-seconds-pair.result c.loop-pair.steps.items
      c.index-firsts-pair.is c.index-seconds-pair.is c.as_slice.ensures c.as_slice-in-Some.ensures c.loop-pair.invariant.blank
      c.visit_rows.new.seen.items c.visit_rows.new.stack.items c.in_ok-visit_rows.ensures.visits;
  blank = c.in_ok-visit_rows.ensures.keeps ∙ c.loop-pair.invariant.blank;
}

pub loop-pair-smaller : goal.loop-pair-smaller
loop-pair-smaller c =
    smaller c.args.firsts.now c.args.seconds.now c.args.names c.requires.first c.requires.second c.requires.within
    c.loop-pair.seen.items c.loop-pair.stack.items c.pop.new.self.items c.in-Some.pair c.loop-pair.invariant.works c.in-Some.ensures.items
    c.as_slice.result.now c.as_slice-in-Some.result.now c.index-firsts-pair.result c.index-seconds-pair.result c.loop-pair.steps.items
    c.index-firsts-pair.is c.index-seconds-pair.is c.as_slice.ensures c.as_slice-in-Some.ensures c.loop-pair.invariant.blank
    c.visit_rows.new.seen.items c.visit_rows.new.stack.items c.in_ok-visit_rows.ensures.visits

pub returns : goal.returns
returns c =
    let e : length c.loop-pair.stack.items ≡ 0 = omega (arith, c.in_default.ensures.cases.0, c.loop-pair.stack.ok) in
    ends c.args.firsts.now c.args.seconds.now c.args.names c.requires.first c.requires.second c.requires.within c.loop-pair.seen.items c.loop-pair.stack.items c.loop-pair.invariant.works e
