use Rattle.std.proofs.Common.{◌≡◌, ◌<◌, ◌≤◌, ◌+◌, None, length, map, subst, sym, arith}
use Rattle.decl_set.specs.Declarations.{Declarations, content_in, follows_in}
use Rattle.decl_set.specs.DeclaredBy.{declared_by, as_element}
use Rattle.decl_set.proofs.Growing.{not_declared, elements_kept, elements_built, elements_counted}
use Rattle.decl_set.proofs.ChildPlaces.{none_are_in}
use Rattle.decl_set.proofs.set.DeclSet.add_element.Goals as goal

pub put-requires : goal.put-requires
put-requires c =
    let P : Declarations → Type 0 = λ v. content_in v c.args.name ≡ None in
    not_declared c.self.inside c.args.name (subst P (sym c.self.view_is) c.requires.new)

pub invariant_of-self-in-Ok : goal.invariant_of-self-in-Ok
invariant_of-self-in-Ok c =
    let s = c.self.inside in
    let P : Declarations → Type 0 = λ v. content_in v c.args.name ≡ None in
    let Q : Declarations → Type 0 = λ v. length v.elements < 1024 in
    let within : follows_in (declared_by s).elements + c.args.follows ≤ 16000000 = omega (arith, c.self.invariant.counted, c.self.invariant.kept.follows) in
    record {
      kept = elements_kept s c.put.new.map.entries c.args.name c.args.declared c.args.follows c.self.invariant.kept c.in-Ok.ensures.ok (subst P (sym c.self.view_is) c.requires.new) (subst Q (sym c.self.view_is) c.requires.few) c.requires.element c.requires.judged within;
      built = elements_built s.elements.entries c.put.new.map.entries c.args.name c.args.declared c.self.invariant.built c.in-Ok.ensures.ok c.requires.built;
      counted = elements_counted s.elements.entries c.put.new.map.entries c.args.name c.args.declared s.follows c.args.follows c.self.invariant.counted c.in-Ok.ensures.ok c.requires.judged;
      children_are = none_are_in (map as_element c.put.new.map.entries) _ c.new.ensures;
    }
