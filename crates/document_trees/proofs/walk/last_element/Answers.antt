use Rattle.std.proofs.Common.{ap, ◌∙◌, sym, ◌++◌, List, take, ◌-◌, arith}
use Rattle.std.specs.Option.{option_map}
use Rattle.document_trees.specs.Trees.{Node}
use Rattle.document_trees.specs.declared.nodes.Item.{Item}
use Rattle.document_trees.specs.Walks.{left_in, left_under, from_element}
use Rattle.document_trees.proofs.Walking.{left_found}
use Rattle.document_trees.proofs.walk.last_element.Goals as goal

pub returns-in-Some-first_element-clause-some : goal.returns-in-Some-first_element-clause-some
returns-in-Some-first_element-clause-some c =
    let e = left_found c.loop-items.lists.items c.deref.result.now c.last.result c.in-Some.items c.deref.ensures.value c.last.ensures.value c.in-Some.is in
    let f = c.first_element.ensures ∙ ap (λ r. from_element (option_map {U = Node × List Item} (λ p. (p.0.now, p.1.now)) r)) c.in-Some-first_element.is in
    c.loop-items.invariant ∙ e ∙ ap (λ k. k ++ left_under c.loop-items.lists.items) f

pub loop-items-preserved : goal.loop-items-preserved
loop-items-preserved c =
    let e = left_found c.loop-items.lists.items c.deref.result.now c.last.result c.in-Some.items c.deref.ensures.value c.last.ensures.value c.in-Some.is in
    let f = c.first_element.ensures ∙ ap (λ r. from_element (option_map {U = Node × List Item} (λ p. (p.0.now, p.1.now)) r)) c.in-None.is in
    c.loop-items.invariant ∙ e ∙ ap (λ k. k ++ left_under c.loop-items.lists.items) f ∙ ap (λ n. left_in (take (n - 1) c.loop-items.lists.items)) (omega arith) ∙ sym (ap left_in c.pop.ensures.rest)
