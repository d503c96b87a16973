use Rattle.std.proofs.Common.{◌++◌, ◌∷◌, [], subst, sym}
use Rattle.attlist_merge.specs.Lists.{Definitions, IsKept}
use Rattle.attlist_merge.proofs.Kept.{kept_either}
use Rattle.attlist_merge.proofs.list.AttList.push.Goals as goal

pub invariant_of-self : goal.invariant_of-self
invariant_of-self c =
    let P : Definitions → Type 0 = λ es. IsKept (es ++ (c.args.name, c.args.definition) ∷ []) in
    kept_either c.self.inside.atts.entries c.put.new.atts.entries (c.self.inside.atts.entries ++ (c.args.name, c.args.definition) ∷ []) c.put.result c.put.ensures.ok c.put.ensures.err c.self.invariant (subst P (sym c.self.view_is) c.requires.kept)
