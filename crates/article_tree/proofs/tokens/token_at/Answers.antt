use Rattle.std.proofs.Common.{refl}
use Rattle.article_tree.specs.Taken.{token_of}
use Rattle.article_tree.proofs.Standing.{shorter, stands_so}
use Rattle.article_tree.proofs.tokens.token_at.Goals as goal

pub overflow_sub-next : goal.overflow_sub-next
overflow_sub-next c = shorter c.args.text.now c.args.at c.split_at.result.1.now (token_of c.in-Some.token) c.in-Some.rest.now c.requires c.split_at.ensures.back (rw c.in-Some.is at c.in_ok-first_token.ensures)

pub returns-in-Some : goal.returns-in-Some
returns-in-Some c = stands_so c.args.text.now c.args.at c.split_at.result.1.now (token_of c.in-Some.token) c.in-Some.rest.now _ c.requires c.split_at.ensures.back (rw c.in-Some.is at c.in_ok-first_token.ensures) refl
