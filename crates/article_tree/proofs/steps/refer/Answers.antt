use Rattle.std.proofs.Common.{[], ◌∷◌, false, sym}
use Rattle.document_trees.specs.Trees as tree
use Rattle.article_tree.specs.Held.{state_of}
use Rattle.article_tree.specs.Tokens.{named}
use Rattle.article_tree.specs.Works.{work_of}
use Rattle.article_tree.proofs.Stepping.{predefined_put, put_advances}
use Rattle.article_tree.proofs.steps.refer.Goals as goal

pub returns-in_ok-put_chars-in-Some : goal.returns-in_ok-put_chars-in-Some
returns-in_ok-put_chars-in-Some c = λ typed.
    let w = work_of c.args.held.now typed c.args.frame.now c.args.waiting.now in
    put_advances c.args.set.now.entities w (named c.args.name.now) c.args.next (c.requires.stands typed) c.put_chars.new.held (tree.chars (c.in-Some.c ∷ []) false tree.nothing)
    (predefined_put c.args.set.now.entities w.frame (state_of w.held) c.args.name.now c.in-Some.c (sym c.in-Some.ensures)) (rw c.as_slice.ensures at c.in_ok-put_chars-in-Some.ensures.state) (rw c.in_ok-put_chars-in-Some.ensures.items (c.requires.stands typed).apart)
