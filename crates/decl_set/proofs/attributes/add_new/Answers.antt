use Rattle.std.proofs.Common.{subst, Err}
use Rattle.attlist_merge.specs.Adding.{Adds}
use Rattle.decl_set.proofs.AddedAttributes.{read_ready, refused}
use Rattle.decl_set.proofs.attributes.add_new.Goals as goal

pub add-requires : goal.add-requires
add-requires c = read_ready c.args.entities.now.entries c.args.budget.now.spent c.args.att.now c.in-Ok.preset c.read_preset.new.budget.spent c.in-Ok-as_att.new c.requires.read c.in-Ok.ensures c.in-Ok-as_att.ensures

pub returns-in-Err-add : goal.returns-in-Err-add
returns-in-Err-add c =
    refused c.args.entities.now.entries c.args.element.now c.args.list.now c.add.new.self c.args.budget.now.spent c.args.att.now c.in-Ok.preset c.read_preset.new.budget.spent c.in-Err-add.fault c.fault_of_att.result c.requires.new c.in-Ok.ensures
    (subst (λ x. Adds c.args.list.now c.add.new.self x (Err c.in-Err-add.fault)) c.in-Ok-as_att.ensures c.in-Err-add.ensures) c.fault_of_att.ensures
