use Rattle.std.proofs.Common.{◌≡◌, ◌∙◌, ◌≤◌, ◌<◌, length, arith, false, is_some, Ok, Err, refl, sym}
use Rattle.decl_set.specs.Declarations.{content_in}
use Rattle.decl_set.proofs.Outcomes.{element_doubled, element_over, element_new}
use Rattle.decl_set.proofs.set.DeclSet.declare_element.Goals as goal

pub returns-then-is_declared : goal.returns-then-is_declared
returns-then-is_declared c =
    (element_doubled c.args.self.now c.args.name c.args.content (sym c.is_declared.ensures ∙ c.if-is_declared.true), refl)

pub returns-then-count-ge-ELEMENTS : goal.returns-then-count-ge-ELEMENTS
returns-then-count-ge-ELEMENTS c =
    let many : 1024 ≤ length c.args.self.now.elements = omega (arith, c.count.ensures.value) in
    (element_over c.args.self.now c.args.name c.args.content (sym c.is_declared.ensures ∙ c.if-is_declared.false) many, refl)

pub returns-in-Err-Ambiguous : goal.returns-in-Err-Ambiguous
returns-in-Err-Ambiguous c =
    let new : is_some (content_in c.args.self.now c.args.name) ≡ false = sym c.is_declared.ensures ∙ c.if-is_declared.false in
    let few : length c.args.self.now.elements < 1024 = omega (arith, c.count.ensures.value) in
    let p = c.in-Err-Ambiguous.p in
    let q = c.in-Err-Ambiguous.q in
    let judgement = rw c.in-Err-Ambiguous.field-0-is at c.in-Err-Ambiguous.ensures in
    (element_new c.args.self.now c.args.name c.args.content (Err (p, q)) new few judgement, refl)

pub returns-in-Ok : goal.returns-in-Ok
returns-in-Ok c =
    let new : is_some (content_in c.args.self.now c.args.name) ≡ false = sym c.is_declared.ensures ∙ c.if-is_declared.false in
    let few : length c.args.self.now.elements < 1024 = omega (arith, c.count.ensures.value) in
    let said = element_new c.args.self.now c.args.name c.args.content (Ok c.in-Ok.follows) new few c.in-Ok.ensures.2 in
    rw said c.add_element.ensures
