use Rattle.std.proofs.Common.{◌∷◌}
use Rattle.document_trees.specs.declared.nodes.Item.TheVariants.{Element}
use Rattle.article_tree.specs.WritingSteps.{whole_of, steps_of}
use Rattle.article_tree.proofs.Appended.{first_on, run_put, comment_put, pi_put}
use Rattle.article_tree.proofs.writing.write_item.Goals as goal

pub returns-in_ok-put_run-in-Chars : goal.returns-in_ok-put_run-in-Chars
unfolding whole_of steps_of
returns-in_ok-put_run-in-Chars c =
    let w = c.args.work.now in
    run_put w.out c.put_run.new.out c.in-Chars.text c.in-Chars.plain w.items.now c.args.after.now w.waiting.items (rw c.in-Chars.is at c.requires) (rw c.as_slice.ensures at c.in_ok-put_run-in-Chars.ensures)

pub returns-in_ok-put_comment-in-Comment : goal.returns-in_ok-put_comment-in-Comment
unfolding whole_of steps_of
returns-in_ok-put_comment-in-Comment c =
    let w = c.args.work.now in
    comment_put w.out c.put_comment.new.out _ w.items.now c.args.after.now w.waiting.items (rw c.in-Comment.is at c.requires) (rw c.as_slice-in-Comment.ensures at c.in_ok-put_comment-in-Comment.ensures)

pub returns-in_ok-put_instruction-in-Pi : goal.returns-in_ok-put_instruction-in-Pi
unfolding whole_of steps_of
returns-in_ok-put_instruction-in-Pi c =
    let w = c.args.work.now in
    pi_put w.out c.put_instruction.new.out c.in-Pi.target c.in-Pi.body w.items.now c.args.after.now w.waiting.items (rw c.in-Pi.is at c.requires) (rw c.as_slice-in-Pi.ensures at c.in_ok-put_instruction-in-Pi.ensures)

pub returns-in-Element : goal.returns-in-Element
returns-in-Element c = first_on c.write_element.result c.args.work.now c.write_element.new.work (Element c.in-Element.node ∷ c.args.after.now) (rw c.in-Element.is at c.requires) c.write_element.ensures
