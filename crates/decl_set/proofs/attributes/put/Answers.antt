use Rattle.std.proofs.Common.{sym}
use Rattle.decl_set.proofs.PutLists.{put_there}
use Rattle.decl_set.proofs.attributes.put.Goals as goal

pub returns-in-Some : goal.returns-in-Some
returns-in-Some c = put_there c.args.entities.now.entries c.args.lists.now.entries (c.get_mut.follows.lender c.add_to.new.list).entries c.in-Some.list.now c.add_to.new.list c.args.budget.now.spent c.add_to.new.budget.spent c.args.raw.now c.add_to.result (sym c.in-Some.ensures.value) (c.get_mut.follows.holds c.add_to.new.list).0 c.add_to.ensures
