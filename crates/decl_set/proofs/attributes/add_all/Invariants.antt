use Rattle.std.proofs.Common.{◌≡◌, ◌++◌, drop}
use Rattle.attlist_merge.specs.Lists.{Definitions}
use Rattle.decl_set.specs.Declaring.{with_all}
use Rattle.decl_set.proofs.attributes.add_all.Given as goal

abbrev pub invariant-loop-att : goal.invariant-loop-att
invariant-loop-att l = record {
  answers : with_all l.entities.entries l.element l.initial.list l.initial.budget.spent l.atts ≡ with_all l.entities.entries l.element l.list l.budget.spent (drop l.att-index l.atts);
  begins : (more : Definitions) × (l.list ≡ l.initial.list ++ more);
}
