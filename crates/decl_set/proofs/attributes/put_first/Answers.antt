use Rattle.std.proofs.Common.{◌≡◌, Ok, subst}
use Rattle.attlist_merge.specs.Lists.{Definitions}
use Rattle.decl_set.specs.Declaring.{with_all}
use Rattle.decl_set.proofs.PutLists.{put_new}
use Rattle.decl_set.proofs.attributes.put_first.Goals as goal

pub returns-in-Ok-insert : goal.returns-in-Ok-insert
returns-in-Ok-insert c =
    let P : Definitions → Type 0 = λ list. with_all c.args.entities.now.entries c.args.raw.now.element list c.args.budget.now.spent c.args.raw.now.atts ≡ Ok (c.add_to.new.list, c.add_to.new.budget.spent) in
    put_new c.args.entities.now.entries c.args.lists.now.entries c.insert.new.self.entries c.args.budget.now.spent c.add_to.new.budget.spent c.args.raw.now c.in-Ok.element c.add_to.new.list (subst P c.new-list.ensures c.in-Ok-add_to.ensures) c.in-Ok.ensures c.in-Ok-insert.ensures.entries
