use Rattle.article_tree.proofs.outside.step_outside.Goals as goal

pub returns-then-typed : goal.returns-then-typed
returns-then-typed c = λ waiting none. rw c.if-typed.true (c.pass_misc.ensures waiting none)

pub returns-in-None : goal.returns-in-None
returns-in-None c = λ waiting none. rw c.if-typed.false (c.pass_misc-in-None.ensures waiting none)

pub returns-in-Some : goal.returns-in-Some
returns-in-Some c = λ waiting none. rw c.if-typed.false (c.pass_type.ensures c.args.set.now.entities c.args.held.now waiting none c.requires)
