use Rattle.std.proofs.Common.{arith}
use Rattle.article_tree.proofs.Beginning.{inside_open}
use Rattle.article_tree.proofs.Stepping.{empty_list}
use Rattle.article_tree.proofs.reading.turn.Goals as goal

pub returns-then-frame : goal.returns-then-frame
returns-then-frame c = c.finish_text.ensures c.args.set.now.entities c.args.typed.now

pub returns-then-len-gt0 : goal.returns-then-len-gt0
returns-then-len-gt0 c = c.turn_inside.ensures c.args.typed.now

pub turn_inside-requires-then-len-gt0-2-clause-inside : goal.turn_inside-requires-then-len-gt0-2-clause-inside
turn_inside-requires-then-len-gt0-2-clause-inside c = inside_open c.args.waiting.now.items c.args.held.now (let a = c.args.held.now.opens.ok.0 in omega (arith, a, c.len-2.ensures, c.if-len-gt0-2.true))

pub returns-then-len-gt0-2 : goal.returns-then-len-gt0-2
returns-then-len-gt0-2 c = c.turn_inside-then-len-gt0-2.ensures c.args.typed.now

pub returns-in-Err : goal.returns-in-Err
returns-in-Err c = c.in-Err.ensures c.args.waiting.now (empty_list c.args.waiting.now.items (let a = c.args.waiting.now.ok.0 in omega (arith, a, c.len.ensures, c.if-len-gt0.false)))

pub returns-in-Ok : goal.returns-in-Ok
returns-in-Ok c = c.in-Ok.ensures c.args.waiting.now (empty_list c.args.waiting.now.items (let a = c.args.waiting.now.ok.0 in omega (arith, a, c.len.ensures, c.if-len-gt0.false)))
