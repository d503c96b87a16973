use Rattle.std.proofs.Common.{rules, arith, ◌≡◌, ◌+◌, ◌++◌, ◌<◌, length, take, slice_get, Some, None, sym, ap, ◌∙◌, subst}
use Rattle.std.proofs.lemmas.List.{append_assoc}
use Rattle.std.proofs.lemmas.Option.{slice_get_within}
use Rattle.least_trees.specs.Plans.{IsPlan, IsWithin}
use Rattle.least_trees.specs.Spots.{rules_of_steps, step_rules}
use Rattle.least_trees.proofs.Origins.{steps_more, steps_all, step_contained, on_fits}
use Rattle.least_trees.proofs.gather.gather_steps.Goals as goal

pub push_step-requires-clause-next : goal.push_step-requires-clause-next
push_step-requires-clause-next g c =
    let plan = g.G.StepGraph.plan c.args.graph.now in
    let steps = plan.numbers.steps c.args.e c.args.state in
    let s : slice_get steps c.loop-inner.k ≡ Some (c.in-Some.inner, c.in-Some.next) =
    ap (λ p. slice_get (p.numbers.steps c.args.e c.args.state) c.loop-inner.k) (sym c.loop-inner.invariant.same) ∙ sym c.look.ensures.step ∙ (cc) in
    let P : IsPlan plan = g.met.G.StepGraph.formed c.args.graph.now in
    let h : IsWithin plan c.args.e (c.in-Some.inner, c.in-Some.next) =
    P.within c.args.e c.args.state (c.in-Some.inner, c.in-Some.next) (step_contained steps c.loop-inner.k (c.in-Some.inner, c.in-Some.next) s) in
    let n : c.in-Some.next < plan.states c.args.e = h.0 in
    omega (arith, n, c.requires.first)

pub push_step-requires-clause-inner : goal.push_step-requires-clause-inner
push_step-requires-clause-inner g c =
    let plan = g.G.StepGraph.plan c.args.graph.now in
    let steps = plan.numbers.steps c.args.e c.args.state in
    let s : slice_get steps c.loop-inner.k ≡ Some (c.in-Some.inner, c.in-Some.next) =
    ap (λ p. slice_get (p.numbers.steps c.args.e c.args.state) c.loop-inner.k) (sym c.loop-inner.invariant.same) ∙ sym c.look.ensures.step ∙ (cc) in
    let P : IsPlan plan = g.met.G.StepGraph.formed c.args.graph.now in
    let h : IsWithin plan c.args.e (c.in-Some.inner, c.in-Some.next) =
    P.within c.args.e c.args.state (c.in-Some.inner, c.in-Some.next) (step_contained steps c.loop-inner.k (c.in-Some.inner, c.in-Some.next) s) in
    on_fits c.args.count plan.count 4294967296 c.in-Some.inner h.1 c.requires.count

pub loop-inner-smaller : goal.loop-inner-smaller
loop-inner-smaller g c =
    let plan = g.G.StepGraph.plan c.args.graph.now in
    let steps = plan.numbers.steps c.args.e c.args.state in
    let s : slice_get steps c.loop-inner.k ≡ Some (c.in-Some.inner, c.in-Some.next) =
    ap (λ p. slice_get (p.numbers.steps c.args.e c.args.state) c.loop-inner.k) (sym c.loop-inner.invariant.same) ∙ sym c.look.ensures.step ∙ (cc) in
    let w : c.loop-inner.k < length steps = slice_get_within steps c.loop-inner.k (c.in-Some.inner, c.in-Some.next) s in
    omega arith

pub loop-inner-preserved : goal.loop-inner-preserved
loop-inner-preserved g c =
    let steps = (g.G.StepGraph.plan c.args.graph.now).numbers.steps c.args.e c.args.state in
    let s : slice_get steps c.loop-inner.k ≡ Some (c.in-Some.inner, c.in-Some.next) =
    ap (λ p. slice_get (p.numbers.steps c.args.e c.args.state) c.loop-inner.k) (sym c.loop-inner.invariant.same) ∙ sym c.look.ensures.step ∙ (cc) in
    let rest = step_rules c.args.count c.args.first c.args.state (c.in-Some.inner, c.in-Some.next) in
    let before = rules_of_steps c.args.count c.args.first c.args.state (take c.loop-inner.k steps) in
    record {
      same = c.look.ensures.same ∙ c.loop-inner.invariant.same;
      within = let w : c.loop-inner.k < length steps = slice_get_within steps c.loop-inner.k (c.in-Some.inner, c.in-Some.next) s in omega arith;
      rules = c.in_ok-push_step.ensures ∙ ap (λ k. k ++ rest) c.loop-inner.invariant.rules ∙ append_assoc c.args.rules.now.items before rest
          ∙ ap (λ k. c.args.rules.now.items ++ k) (sym (steps_more c.args.count c.args.first c.args.state steps c.loop-inner.k (c.in-Some.inner, c.in-Some.next) s));
      looks = omega (arith, c.look.ensures.looks, c.loop-inner.invariant.looks);
      sums = c.look.ensures.sums ∙ c.loop-inner.invariant.sums;
    }

pub returns-clause-rules : goal.returns-clause-rules
returns-clause-rules g c =
    let steps = (g.G.StepGraph.plan c.args.graph.now).numbers.steps c.args.e c.args.state in
    let s : slice_get steps c.loop-inner.k ≡ None =
    ap (λ p. slice_get (p.numbers.steps c.args.e c.args.state) c.loop-inner.k) (sym c.loop-inner.invariant.same) ∙ sym c.in_default.ensures.step in
    c.loop-inner.invariant.rules ∙ ap (λ z. c.args.rules.now.items ++ rules_of_steps c.args.count c.args.first c.args.state z) (steps_all steps c.loop-inner.k s)
