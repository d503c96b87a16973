use Rattle.std.proofs.Common.{◌≡◌, ◌∙◌, ◌++◌, ℕ, List, Option, map, take, ap}
use Rattle.std.specs.Prelude.{option_to_list}
use Rattle.decl_set.specs.Children.{children_of}
use Rattle.decl_set.specs.Declarations.{Element}
use Rattle.decl_set.proofs.ChildPlaces.{mapped_more}
use Rattle.decl_set.proofs.set.DeclSet.all_children.Goals as goal

pub loop-e-preserved : goal.loop-e-preserved
loop-e-preserved c =
    let f : Element → List (Option ℕ) = λ d. children_of c.args.self.now.elements d.1 in
    let before = c.loop-e.invariant in
    let found = c.in_ok-children_at.ensures in
    let pushed = c.in_ok-push_some.ensures in
    pushed
    ∙ ap (λ (all : List (List (Option ℕ))). all ++ option_to_list c.in_ok-children_at.field-0) before
    ∙ ap (λ (o : Option (List (Option ℕ))). map f (take c.loop-e.e c.args.self.now.elements) ++ option_to_list o) found
    ∙ mapped_more f c.args.self.now.elements c.loop-e.e
