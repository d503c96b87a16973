use Rattle.std.proofs.Common.{◌≡◌, None, subst, sym}
use Rattle.decl_set.specs.Declarations.{Declarations, notation_in}
use Rattle.decl_set.proofs.Growing.{notations_kept}
use Rattle.decl_set.proofs.set.DeclSet.add_notation.Goals as goal

pub invariant_of-self : goal.invariant_of-self
invariant_of-self c =
    let P : Declarations → Type 0 = λ v. notation_in v c.args.name ≡ None in
    record {
      kept = notations_kept c.self.inside c.put.new.map.entries c.args.name c.args.ids c.put.result c.self.invariant.kept c.put.ensures.ok c.put.ensures.err c.text-text.ensures.name c.requires.ids (subst P (sym c.self.view_is) c.requires.new);
      built = c.self.invariant.built;
      counted = c.self.invariant.counted;
      children_are = c.self.invariant.children_are;
    }
