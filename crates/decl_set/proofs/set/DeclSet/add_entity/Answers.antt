use Rattle.std.proofs.Common.{◌≡◌, None, subst, sym}
use Rattle.decl_set.specs.Declarations.{Declarations, entity_in}
use Rattle.decl_set.proofs.Growing.{entities_kept}
use Rattle.decl_set.proofs.set.DeclSet.add_entity.Goals as goal

pub invariant_of-self : goal.invariant_of-self
invariant_of-self c =
    let P : Declarations → Type 0 = λ v. entity_in v c.args.name ≡ None in
    record {
      kept = entities_kept c.self.inside c.put.new.map.entries c.args.name c.args.def c.put.result c.self.invariant.kept c.put.ensures.ok c.put.ensures.err c.text-text.ensures.name c.requires.def (subst P (sym c.self.view_is) c.requires.new);
      built = c.self.invariant.built;
      counted = c.self.invariant.counted;
      children_are = c.self.invariant.children_are;
    }
