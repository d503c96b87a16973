use Rattle.std.proofs.Common.{arith, ◌≡◌, ◌<◌, ◌≤◌, ◌+◌, ◌-◌, [], ◌∷◌, length, map, slice_index_or, sym, ap, ◌∙◌, subst, refl}
use Rattle.least_trees.specs.Uses.{no_use, read, rule_of, visited}
use Rattle.least_trees.specs.Rules.{AllIn, InRange, lower_all, applied}
use Rattle.least_trees.proofs.Visiting.{all-in-visited}
use Rattle.least_trees.proofs.Sorting.{end-within, reads, read-range, read-costs, read-sums, read-room}
use Rattle.least_trees.proofs.lowering.lower_along.Goals as goal

pub loop-at-init : goal.loop-at-init
loop-at-init g c =
    let rs = c.args.rules.now in
    let x = c.args.x in
    let part = c.args.part in
    let q : read part x c.args.uses.now.list.items c.start-at.result (c.start-end.result - c.start-at.result) ≡ visited part rs x (length rs) =
    reads (length c.args.values.now) part rs c.args.uses.now c.requires.listed x c.start-at.result c.start-end.result c.requires.spot c.start-at.ensures c.start-end.ensures in
    record {
      length_same = refl;
      range = subst (AllIn (length c.args.values.now)) (sym q) (all-in-visited part (length c.args.values.now) rs x (length rs) c.requires.range (omega arith));
      value = ap (λ z. lower_all (g.G.StepGraph.plan c.args.graph.now).numbers.cap c.args.done.now x z (map g.G.Value.Worth.cost c.args.values.now)) q;
      board = c.requires.board;
      same = refl;
      looks = refl;
      sums = ap (λ z. g.G.StepGraph.sums c.args.graph.now + applied c.args.done.now x z) q;
    }

pub rule-requires-clause-within : goal.rule-requires-clause-within
rule-requires-clause-within g c =
    let w = end-within (length c.args.values.now) c.args.part c.args.rules.now c.args.uses.now c.requires.listed c.args.x c.start-at.result c.start-end.result
    c.requires.spot c.start-at.ensures c.start-end.ensures in
    omega (arith, w)

pub visit-requires-clause-range : goal.visit-requires-clause-range
visit-requires-clause-range g c =
    let a = read-range c.args.part c.args.x c.args.uses.now.list.items c.loop-at.at c.start-end.result c.loop-at-test.true (length c.loop-at.values) c.loop-at.invariant.range in
    subst (InRange (length c.loop-at.values)) (sym c.rule.ensures) a.0

pub visit-requires-clause-room : goal.visit-requires-clause-room
visit-requires-clause-room g c =
    let list = c.args.uses.now.list.items in
    let rule = rule_of c.args.part c.args.x (slice_index_or list c.loop-at.at no_use) in
    let r = read-room c.args.part c.args.x list c.loop-at.at c.start-end.result c.loop-at-test.true c.args.done.now (g.G.StepGraph.sums c.loop-at.graph)
    (g.G.StepGraph.sums c.args.graph.now + applied c.args.done.now c.args.x (visited c.args.part c.args.rules.now c.args.x (length c.args.rules.now))) c.loop-at.invariant.sums in
    let h : applied c.args.done.now c.args.x (c.rule.result ∷ []) ≡ applied c.args.done.now c.args.x (rule ∷ []) =
    ap (λ z. applied c.args.done.now c.args.x (z ∷ [])) c.rule.ensures in
    omega (arith, r, h, c.requires.room)

pub loop-at-preserved : goal.loop-at-preserved
loop-at-preserved g c =
    let rs = c.args.rules.now in
    let x = c.args.x in
    let part = c.args.part in
    let done = c.args.done.now in
    let cap = (g.G.StepGraph.plan c.args.graph.now).numbers.cap in
    let list = c.args.uses.now.list.items in
    let at = c.loop-at.at in
    let end = c.start-end.result in
    let test = c.loop-at-test.true in
    let rule = rule_of part x (slice_index_or list at no_use) in
    let costs = map g.G.Value.Worth.cost c.loop-at.values in
    let a = read-range part x list at end test (length c.loop-at.values) c.loop-at.invariant.range in
    let q : map g.G.Value.Worth.cost c.visit.new.values ≡ lower_all cap done x (rule ∷ []) costs =
    c.visit.ensures.value ∙ ap (λ p. lower_all p.numbers.cap done x (c.rule.result ∷ []) costs) c.loop-at.invariant.same
    ∙ ap (λ r. lower_all cap done x (r ∷ []) costs) c.rule.ensures in
    let s : g.G.StepGraph.sums c.visit.new.graph ≡ g.G.StepGraph.sums c.loop-at.graph + applied done x (rule ∷ []) =
    c.visit.ensures.sums ∙ ap (λ r. g.G.StepGraph.sums c.loop-at.graph + applied done x (r ∷ [])) c.rule.ensures in
    record {
      length_same = c.visit.auto.values ∙ c.loop-at.invariant.length_same;
      range = subst (λ n. AllIn n (read part x list (at + 1) (end - (at + 1)))) (sym c.visit.auto.values) a.1;
      value = read-costs part x list at end test cap done costs (map g.G.Value.Worth.cost c.visit.new.values)
          (lower_all cap done x (visited part rs x (length rs)) (map g.G.Value.Worth.cost c.args.values.now)) q c.loop-at.invariant.value;
      board = c.visit.ensures.board;
      same = c.visit.ensures.same ∙ c.loop-at.invariant.same;
      looks = c.visit.ensures.looks ∙ c.loop-at.invariant.looks;
      sums = read-sums part x list at end test done (g.G.StepGraph.sums c.loop-at.graph) (g.G.StepGraph.sums c.visit.new.graph)
          (g.G.StepGraph.sums c.args.graph.now + applied done x (visited part rs x (length rs))) s c.loop-at.invariant.sums;
    }
