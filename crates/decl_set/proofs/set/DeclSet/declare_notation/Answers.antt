use Rattle.std.proofs.Common.{◌≡◌, ◌∙◌, true, false, is_some, Ok, ap, refl, subst, sym}
use Rattle.decl_set.specs.Declarations.{Declarations, notation_in}
use Rattle.decl_set.proofs.Outcomes.{notation_doubled, notation_new}
use Rattle.decl_set.proofs.set.DeclSet.declare_notation.Goals as goal

pub returns-then-contains_key : goal.returns-then-contains_key
returns-then-contains_key c =
    let P : Declarations → Type 0 = λ v. is_some (notation_in v c.args.name) ≡ true in
    let there : is_some (notation_in c.args.self.now c.args.name) ≡ true = subst P c.self.view_is (sym c.contains_key.ensures ∙ c.if-contains_key.true) in
    (notation_doubled c.args.self.now c.args.name c.args.ids there, refl)

pub returns-in-Ok : goal.returns-in-Ok
returns-in-Ok c =
    let P : Declarations → Type 0 = λ v. is_some (notation_in v c.args.name) ≡ false in
    let new : is_some (notation_in c.args.self.now c.args.name) ≡ false = subst P c.self.view_is (sym c.contains_key.ensures ∙ c.if-contains_key.false) in
    notation_new c.args.self.now c.args.name c.args.ids new ∙ ap Ok (sym c.in-Ok.ensures.ok)
