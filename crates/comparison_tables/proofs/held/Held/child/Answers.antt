use Rattle.std.proofs.Common.{◌∙◌, ap, slice_get}
use Rattle.std.specs.Option.{option_map}
use Rattle.decl_set.specs.Children.{child_step}
use Rattle.decl_set.specs.Steps.{steps_at}
use Rattle.comparison_tables.proofs.Bounds.{few_at, child_below}
use Rattle.comparison_tables.proofs.held.Held.child.Goals as goal

pub returns-clause-state : goal.returns-clause-state
returns-clause-state c =
    let first = c.args.self.now.first.now in
    child_below first c.args.self.now.automaton.now c.args.i c.args.k c.child_at.result
    (c.child_at.ensures.value ∙ ap (λ o. option_map (child_step first) (slice_get (steps_at first o c.args.i) c.args.k)) c.requires.place)

pub returns-clause-few : goal.returns-clause-few
returns-clause-few c =
    few_at c.args.self.now.first.now c.requires.first c.args.self.now.place c.args.self.now.name.now c.args.self.now.automaton.now c.requires.place
