use Rattle.std.proofs.Common.{◌≡◌, ◌∙◌, true, false, is_some, subst, sym}
use Rattle.decl_set.specs.Declarations.{Declarations, entity_in}
use Rattle.decl_set.proofs.Outcomes.{no_some, entity_there, entity_new}
use Rattle.decl_set.proofs.set.DeclSet.declare_entity.Goals as goal

pub returns-then-contains_key : goal.returns-then-contains_key
returns-then-contains_key c =
    let P : Declarations → Type 0 = λ v. is_some (entity_in v c.args.name) ≡ true in
    let there : is_some (entity_in c.args.self.now c.args.name) ≡ true = subst P c.self.view_is (sym c.contains_key.ensures ∙ c.if-contains_key.true) in
    (there, entity_there c.args.self.now c.args.name c.args.def there)

pub returns-in-Ok : goal.returns-in-Ok
returns-in-Ok c =
    let P : Declarations → Type 0 = λ v. is_some (entity_in v c.args.name) ≡ false in
    let new : is_some (entity_in c.args.self.now c.args.name) ≡ false = subst P c.self.view_is (sym c.contains_key.ensures ∙ c.if-contains_key.false) in
    (no_some _ new, c.in-Ok.ensures.ok ∙ entity_new c.args.self.now c.args.name c.args.def new)
