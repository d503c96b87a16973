use Rattle.std.proofs.Common.{◌≡◌, ◌∙◌, ◌<◌, ◌+◌, ℕ, List, ap, sym, subst, map, length, Some, None, Option, arith, refl}
use Rattle.std.specs.Prelude.{option_map}
use Rattle.std.proofs.lemmas.Bool.{eq-eqb}
use Rattle.std.proofs.lemmas.List.{length-map}
use Rattle.decl_set.specs.Children.{child_step}
use Rattle.decl_set.specs.Declarations.{Declarations}
use Rattle.decl_set.specs.DeclaredBy.{declared_by, as_element}
use Rattle.decl_set.specs.Steps.{any_step}
use Rattle.decl_set.proofs.ChildPlaces.{any_there, any_none}
use Rattle.decl_set.proofs.set.DeclSet.element_child.Goals as goal
use Rattle.decl_set.proofs.set.DeclSet.element_child.Goals.{else-state-eq0-via-then-state-eq0+else-k-len, else-state-eq0-via-else-state-eq0}

pub returns-then-k-len : goal.returns-then-k-len
returns-then-k-len c =
    let P : Declarations → Type 0 = λ v. Some (Some c.args.k, 0) ≡ option_map {U = Option ℕ × ℕ} (child_step v) (any_step v c.args.state c.args.k) in
    let es = c.self.inside.elements.entries in
    let within : c.args.k < length (map as_element es) = simp (length-map) (let h = c.if-k-len.true in let l = c.len.ensures.len in omega arith) in
    subst P c.self.view_is (any_there (declared_by c.self.inside) c.args.state c.args.k c.self.invariant.kept.elements_apart c.if-state-eq0.true within)

pub returns-else-state-eq0 : goal.returns-else-state-eq0
returns-else-state-eq0 c =
    let P : Declarations → Type 0 = λ v. None ≡ option_map {U = Option ℕ × ℕ} (child_step v) (any_step v c.args.state c.args.k) in
    let es = c.self.inside.elements.entries in
    let long : length (map as_element es) ≡ length es = length-map es as_element in
    subst P c.self.view_is (any_none (declared_by c.self.inside) c.args.state c.args.k (λ there. elim c.else-state-eq0.branch [
      | else-state-eq0-via-then-state-eq0+else-k-len w ↦ (let l = w.len.ensures.len in let past = w.if-k-len.false in absurd (omega (arith, there.1)))
      | else-state-eq0-via-else-state-eq0 w ↦ absurd (w.if-state-eq0.false there.0)
    ]))
