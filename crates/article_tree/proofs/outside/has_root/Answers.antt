use Rattle.std.proofs.Common.{arith}
use Rattle.article_tree.proofs.Skipping.{root_read}
use Rattle.article_tree.proofs.outside.has_root.Goals as goal

pub returns-then-len-gt0 : goal.returns-then-len-gt0
returns-then-len-gt0 c = root_read c.args.held.now.items.items c.args.held.now.run (let a = c.args.held.now.items.ok.0 in omega (arith, a, c.len.ensures, c.if-len-gt0.true))
