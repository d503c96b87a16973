use Rattle.decl_set.proofs.value_stack.refer.Goals as goal

pub returns-in-Some : goal.returns-in-Some
returns-in-Some c = c.put.ensures c.args.entities.now.entries c.args.chain.now
