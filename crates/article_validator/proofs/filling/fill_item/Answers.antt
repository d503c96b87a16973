use Rattle.std.proofs.Common.{refl}
use Rattle.document_trees.specs.Trees as tree
use Rattle.document_trees.specs.declared.nodes.Item.TheVariants.{Chars, Comment, Pi}
use Rattle.article_validator.specs.FillingSteps.{whole_of, steps_of}
use Rattle.article_validator.proofs.FillingSteps.{item_put}
use Rattle.article_validator.proofs.filling.fill_item.Goals as goal

pub returns-in_ok-push-in-Chars : goal.returns-in_ok-push-in-Chars
unfolding whole_of steps_of
returns-in_ok-push-in-Chars c =
    let w = c.args.work.now in
    item_put c.args.set.now w.node c.push.new.self (tree.chars c.in-Chars.text c.in-Chars.plain tree.nothing) (Chars c.in-Chars.text c.in-Chars.plain) w.later.now c.args.after.now w.waiting.items
    (rw c.in-Chars.is at c.requires) (rw c.in_ok-text-in-Chars.ensures at c.in_ok-push-in-Chars.ensures.ok) refl refl

pub returns-in_ok-push-in-Comment : goal.returns-in_ok-push-in-Comment
unfolding whole_of steps_of
returns-in_ok-push-in-Comment c =
    let w = c.args.work.now in
    item_put c.args.set.now w.node c.push-in-Comment.new.self (tree.comment c.in-Comment.text tree.nothing) (Comment c.in-Comment.text) w.later.now c.args.after.now w.waiting.items
    (rw c.in-Comment.is at c.requires) (rw c.in_ok-copy-in-Comment.ensures at c.in_ok-push-in-Comment.ensures.ok) refl refl

pub returns-in_ok-push-in-Pi : goal.returns-in_ok-push-in-Pi
unfolding whole_of steps_of
returns-in_ok-push-in-Pi c =
    let w = c.args.work.now in
    item_put c.args.set.now w.node c.push-in-Pi.new.self (tree.pi c.in-Pi.target c.in-Pi.body tree.nothing) (Pi c.in-Pi.target c.in-Pi.body) w.later.now c.args.after.now w.waiting.items
    (rw c.in-Pi.is at c.requires) (rw (c.in_ok-target-in-Pi.ensures, c.in_ok-body-in-Pi.ensures) at c.in_ok-push-in-Pi.ensures.ok) refl refl
