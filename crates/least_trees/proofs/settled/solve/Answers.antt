use Rattle.std.proofs.Common.{rules, arith, ◌≡◌, ◌≤◌, ◌+◌, ◌++◌, length, map, take, drop, sym, ap, ◌∙◌, subst}
use Rattle.std.proofs.lemmas.List.{length-map, take_at}
use Rattle.least_trees.specs.Plans.{IsPlan, steps_in}
use Rattle.least_trees.specs.Rules.{AllIn}
use Rattle.least_trees.specs.Rows.{AreExact}
use Rattle.least_trees.specs.Solving.{AllSmall, IsLowest}
use Rattle.least_trees.specs.Spots.{base, all_starts, all_rules, IsSpots}
use Rattle.least_trees.proofs.Origins.{length-starts, rules-in-range, small-starts, few-rules}
use Rattle.least_trees.proofs.Exact.{exact}
use Rattle.least_trees.proofs.settled.solve.Goals as goal

pub gather-requires-clause-spots : goal.gather-requires-clause-spots
gather-requires-clause-spots g c =
    let plan = g.G.StepGraph.plan c.args.graph.now in
    let items = c.in_ok-spots.spots.values.items in
    let S : IsSpots plan (map g.G.Value.Worth.cost items) c.in_ok-spots.spots.firsts.items = c.in_ok-spots.ensures.spots in
    let q : c.len-count.result ≡ length items = search rules in
    q ∙ sym (length-map items g.G.Value.Worth.cost) ∙ ap length S.starts_are ∙ length-starts plan

pub list_uses-requires-clause-range : goal.list_uses-requires-clause-range
list_uses-requires-clause-range g c =
    let plan = g.G.StepGraph.plan c.args.graph.now in
    let items = c.in_ok-spots.spots.values.items in
    let P : IsPlan plan = g.met.G.StepGraph.formed c.args.graph.now in
    let S : IsSpots plan (map g.G.Value.Worth.cost items) c.in_ok-spots.spots.firsts.items = c.in_ok-spots.ensures.spots in
    let q : c.len-count.result ≡ length items = search rules in
    let n : c.len-count.result ≡ base plan plan.count = q ∙ sym (length-map items g.G.Value.Worth.cost) ∙ ap length S.starts_are ∙ length-starts plan in
    let r : c.as_slice-2.result.now ≡ all_rules plan = c.as_slice-2.ensures.value ∙ c.in_ok-rules.ensures.rules in
    subst (λ z. AllIn c.len-count.result z) (sym r) (subst (λ k. AllIn k (all_rules plan)) (sym n) (rules-in-range plan P))

pub list_uses-requires-2-clause-range : goal.list_uses-requires-2-clause-range
list_uses-requires-2-clause-range g c =
    let plan = g.G.StepGraph.plan c.args.graph.now in
    let items = c.in_ok-spots.spots.values.items in
    let P : IsPlan plan = g.met.G.StepGraph.formed c.args.graph.now in
    let S : IsSpots plan (map g.G.Value.Worth.cost items) c.in_ok-spots.spots.firsts.items = c.in_ok-spots.ensures.spots in
    let q : c.len-count.result ≡ length items = search rules in
    let n : c.len-count.result ≡ base plan plan.count = q ∙ sym (length-map items g.G.Value.Worth.cost) ∙ ap length S.starts_are ∙ length-starts plan in
    let r : c.as_slice-3.result.now ≡ all_rules plan = c.as_slice-3.ensures.value ∙ c.in_ok-rules.ensures.rules in
    subst (λ z. AllIn c.len-count.result z) (sym r) (subst (λ k. AllIn k (all_rules plan)) (sym n) (rules-in-range plan P))

pub settle-requires-clause-range : goal.settle-requires-clause-range
settle-requires-clause-range g c =
    let plan = g.G.StepGraph.plan c.args.graph.now in
    let items = c.in_ok-spots.spots.values.items in
    let P : IsPlan plan = g.met.G.StepGraph.formed c.args.graph.now in
    let S : IsSpots plan (map g.G.Value.Worth.cost items) c.in_ok-spots.spots.firsts.items = c.in_ok-spots.ensures.spots in
    let n : length c.as_mut_slice-2.result.now ≡ base plan plan.count =
    ap length c.as_mut_slice-2.ensures.value ∙ sym (length-map items g.G.Value.Worth.cost) ∙ ap length S.starts_are ∙ length-starts plan in
    let r : c.as_slice-6.result.now ≡ all_rules plan = c.as_slice-6.ensures.value ∙ c.in_ok-rules.ensures.rules in
    subst (λ z. AllIn (length c.as_mut_slice-2.result.now) z) (sym r) (subst (λ k. AllIn k (all_rules plan)) (sym n) (rules-in-range plan P))

pub settle-requires-clause-small : goal.settle-requires-clause-small
settle-requires-clause-small g c =
    let plan = g.G.StepGraph.plan c.args.graph.now in
    let P : IsPlan plan = g.met.G.StepGraph.formed c.args.graph.now in
    let S : IsSpots plan (map g.G.Value.Worth.cost c.in_ok-spots.spots.values.items) c.in_ok-spots.spots.firsts.items = c.in_ok-spots.ensures.spots in
    let v : map g.G.Value.Worth.cost c.as_mut_slice-2.result.now ≡ all_starts plan = ap (map g.G.Value.Worth.cost) c.as_mut_slice-2.ensures.value ∙ S.starts_are in
    subst (λ p. AllSmall p.numbers.cap (map g.G.Value.Worth.cost c.as_mut_slice-2.result.now)) (sym c.gather.ensures.same)
    (subst (AllSmall plan.numbers.cap) (sym v) (small-starts plan P))

pub settle-requires-clause-room : goal.settle-requires-clause-room
settle-requires-clause-room g c =
    let plan = g.G.StepGraph.plan c.args.graph.now in
    let r : length c.as_slice-6.result.now ≡ length (all_rules plan) = ap length (c.as_slice-6.ensures.value ∙ c.in_ok-rules.ensures.rules) in
    omega (arith, r, few-rules plan, c.gather.ensures.sums, c.requires.sums)

pub returns-clause-exact : goal.returns-clause-exact
returns-clause-exact g c =
    let plan = g.G.StepGraph.plan c.args.graph.now in
    let cost = g.G.Value.Worth.cost in
    let items = c.in_ok-spots.spots.values.items in
    let new = c.settle.new.values in
    let P : IsPlan plan = g.met.G.StepGraph.formed c.args.graph.now in
    let S : IsSpots plan (map cost items) c.in_ok-spots.spots.firsts.items = c.in_ok-spots.ensures.spots in
    let v : map cost c.as_mut_slice-2.result.now ≡ all_starts plan = ap (map cost) c.as_mut_slice-2.ensures.value ∙ S.starts_are in
    let r : c.as_slice-6.result.now ≡ all_rules plan = c.as_slice-6.ensures.value ∙ c.in_ok-rules.ensures.rules in
    let n : length new ≡ length items = c.settle.auto.values ∙ ap length c.as_mut_slice-2.ensures.value in
    let k : length new ≡ c.in_ok-spots.spots.values.len = omega (arith, n, c.in_ok-spots.spots.values.ok.0) in
    let t : take c.in_ok-spots.spots.values.len (new ++ drop (length new) items) ≡ new = take_at new (drop (length new) items) c.in_ok-spots.spots.values.len k in
    let L : IsLowest plan.numbers.cap (all_rules plan) (all_starts plan) (map cost new) =
    subst (λ p. IsLowest p.numbers.cap (all_rules plan) (all_starts plan) (map cost new)) c.gather.ensures.same
    (subst (λ z. IsLowest (g.G.StepGraph.plan c.gather.new.graph).numbers.cap z (all_starts plan) (map cost new)) r
    (subst (λ z. IsLowest (g.G.StepGraph.plan c.gather.new.graph).numbers.cap c.as_slice-6.result.now z (map cost new)) v c.settle.ensures.lowest)) in
    let A : AreExact plan (map cost new) c.in_ok-spots.spots.firsts.items = record {
      size = length-map new cost ∙ n ∙ sym (length-map items cost) ∙ ap length S.starts_are ∙ length-starts plan;
      firsts_are = S.firsts_are;
      solved = exact plan (map cost new) P L;
    } in
    subst (λ z. AreExact plan (map cost z) c.in_ok-spots.spots.firsts.items) (sym t) A

pub returns-clause-sums : goal.returns-clause-sums
returns-clause-sums g c =
    let plan = g.G.StepGraph.plan c.args.graph.now in
    let r : length c.as_slice-6.result.now ≡ length (all_rules plan) = ap length (c.as_slice-6.ensures.value ∙ c.in_ok-rules.ensures.rules) in
    omega (arith, r, few-rules plan, c.gather.ensures.sums, c.settle.ensures.sums)
