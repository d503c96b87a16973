use Rattle.std.proofs.Common.{◌≡◌, ◌++◌, ◌∷◌, [], None, subst, sym, rules}
use Rattle.attribute_types.specs.declared.classes.ValueClass.{ValueClass}
use Rattle.attlist_merge.specs.Lists.{IsKept, definition_of}
use Rattle.attlist_merge.proofs.Kept.{kept_pushed}
use Rattle.attlist_merge.proofs.list.AttList.add.Goals as goal

pub push-requires-clause-kept : goal.push-requires-clause-kept
push-requires-clause-kept c =
    let P : ValueClass → Type 0 = λ k. IsKept (c.args.self.now ++ (c.args.att.name, record { kind = c.args.att.kind; preset = c.args.att.preset; class = k }) ∷ []) in
    let new : definition_of c.args.self.now c.args.att.name ≡ None = search rules in
    subst P (sym c.in-Ok-class_of.ensures) (kept_pushed c.args.self.now c.args.att (subst IsKept c.self.view_is c.self.invariant) c.requires new c.in-Ok.ensures)
