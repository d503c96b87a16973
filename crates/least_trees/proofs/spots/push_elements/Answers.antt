use Rattle.std.proofs.Common.{rules, arith, ◌≡◌, ◌+◌, ◌++◌, [], ◌∷◌, length, map, sym, ap, ◌∙◌}
use Rattle.std.proofs.lemmas.List.{append_assoc}
use Rattle.least_trees.specs.Spots.{base, element_starts, state_starts, first_spots}
use Rattle.least_trees.proofs.Origins.{grown, base_more, elements_more, firsts_more}
use Rattle.least_trees.proofs.spots.push_elements.Goals as goal

pub loop-e-preserved : goal.loop-e-preserved
loop-e-preserved g c =
    let plan = g.G.StepGraph.plan c.args.graph.now in
    let e = c.loop-e.e in
    let cost = g.G.Value.Worth.cost in
    let states = state_starts plan e (plan.states e) in
    let values = map cost c.args.values.now.items in
    let firsts = c.args.bases.now.items in
    let n : c.len-first.result ≡ length c.loop-e.values.items = search rules in
    let first : c.len-first.result ≡ base plan e = n ∙ c.loop-e.invariant.size in
    record {
      size = grown cost c.loop-e.values.items c.push_states.new.values.items plan e (plan.states e) c.in_ok-push_states.ensures
          ∙ ap (λ z. z + plan.states e) c.loop-e.invariant.size ∙ sym (base_more plan e);
      values = c.in_ok-push_states.ensures ∙ ap (λ z. z ++ states) c.loop-e.invariant.values ∙ append_assoc values (element_starts plan e) states
          ∙ ap (λ z. values ++ z) (sym (elements_more plan e));
      firsts = c.in_ok-push.ensures.items ∙ ap (λ z. z ++ c.len-first.result ∷ []) c.loop-e.invariant.firsts
          ∙ append_assoc firsts (first_spots plan e) (c.len-first.result ∷ []) ∙ ap (λ z. firsts ++ (first_spots plan e ++ z ∷ [])) first
          ∙ ap (λ z. firsts ++ z) (sym (firsts_more plan e));
    }
