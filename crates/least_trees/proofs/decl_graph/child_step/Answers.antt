use Rattle.std.proofs.Common.{◌≡◌, ◌∙◌, ℕ, List, Option, slice_get, sym}
use Rattle.std.proofs.lemmas.Option.{slice_get-map}
use Rattle.decl_set.specs.Steps.{steps_at}
use Rattle.tree_costs.specs.Leasts.{place_of}
use Rattle.least_trees.proofs.decl_graph.child_step.Goals as goal

pub returns : goal.returns
returns c =
    let place : List ℕ × ℕ → Option ℕ × ℕ = λ s. (place_of c.args.set.now s.0, s.1) in
    c.child_at.ensures.value ∙ sym (slice_get-map place (steps_at c.args.set.now (slice_get c.args.set.now.elements c.args.e) c.args.state) c.args.k)
