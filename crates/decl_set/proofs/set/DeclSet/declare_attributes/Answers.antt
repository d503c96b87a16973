use Rattle.std.proofs.Common.{◌≡◌, ◌∙◌, true, subst, sym}
use Rattle.attribute_types.specs.Spacing.{is_filled}
use Rattle.decl_set.specs.DeclaredBy.{declared_by}
use Rattle.decl_set.specs.Declarations.{Declarations}
use Rattle.decl_set.specs.Declaring.{with_attributes}
use Rattle.decl_set.specs.Outcomes.{DeclaresCounting}
use Rattle.decl_set.proofs.DeclaredLists.{declares, declares_none, filled_by, lists_kept}
use Rattle.decl_set.proofs.ReadLists.{list_read}
use Rattle.decl_set.proofs.set.DeclSet.declare_attributes.Goals as goal

pub returns-then-len-eq0 : goal.returns-then-len-eq0
returns-then-len-eq0 c = declares_none c.args.self.now c.args.budget.now.spent c.args.raw.now (sym c.len.ensures ∙ c.if-len-eq0.true)

pub put-requires : goal.put-requires
put-requires c = (list_read c.args.raw.now c.requires).1

pub invariant_of-self : goal.invariant_of-self
invariant_of-self c =
    let some : is_filled c.args.raw.now.atts ≡ true = filled_by c.args.raw.now.atts (λ none. c.if-len-eq0.false (c.len.ensures ∙ none)) in
    record {
      kept = lists_kept (declared_by c.self.inside) c.put.new.lists.entries c.args.budget.now.spent c.put.new.budget.spent c.args.raw.now c.put.result c.self.invariant.kept c.requires some c.put.ensures;
      built = c.self.invariant.built;
      counted = c.self.invariant.counted;
      children_are = c.self.invariant.children_are;
    }

pub returns : goal.returns
returns c =
    let some : is_filled c.args.raw.now.atts ≡ true = filled_by c.args.raw.now.atts (λ none. c.if-len-eq0.false (c.len.ensures ∙ none)) in
    let P : Declarations → Type 0 = λ set. DeclaresCounting (with_attributes set c.args.budget.now.spent c.args.raw.now) (set, c.args.budget.now.spent) (record (declared_by c.self.inside) { lists = c.put.new.lists.entries }, c.put.new.budget.spent) c.put.result in
    subst P c.self.view_is (declares (declared_by c.self.inside) c.put.new.lists.entries c.args.budget.now.spent c.put.new.budget.spent c.args.raw.now c.put.result some c.put.ensures)
