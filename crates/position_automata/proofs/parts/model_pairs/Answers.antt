use Rattle.std.proofs.Common.{◌≡◌, ◌++◌, List, ℕ, [], ap, subst, ◌∙◌}
use Rattle.content_models.specs.Model.{model}
use Rattle.position_automata.specs.Owed.{spread, IsListed}
use Rattle.position_automata.specs.Places.{edges, beside, firsts}
use Rattle.position_automata.proofs.Listing.{listed-whole}
use Rattle.position_automata.proofs.parts.model_pairs.Goals as goal

pub returns : goal.returns
returns c =
    let r = model c.args.part.now in
    let ends = c.in_ok-ends.ends in
    let E = c.in_ok-ends.ensures.ends.0 in
    let old = c.walk.new.edges.items in
    let listed : IsListed (edges 1 r) [] old ends =
    subst (λ (k : List (ℕ × ℕ)). IsListed (edges 1 r) k old ends) c.new-found.ensures.items c.in_ok-ends.ensures.listed in
    let owed : c.push_owed.new.edges.items ≡ old ++ spread ends.owed.items =
    c.in_ok-push_owed.ensures ∙ ap (λ k. old ++ spread k) c.as_slice.ensures.value in
    let last : c.push_beside.new.edges.items ≡ (old ++ spread ends.owed.items) ++ beside 0 (firsts 1 r) =
    c.in_ok-push_beside.ensures ∙ ap (λ k. k ++ beside 0 c.as_slice-2.result.now) owed
    ∙ ap (λ k. (old ++ spread ends.owed.items) ++ beside 0 k) (c.as_slice-2.ensures.value ∙ E.first_is) in
    (E, listed-whole (edges 1 r) old c.push_beside.new.edges.items (beside 0 (firsts 1 r)) ends listed last)
