use Rattle.std.proofs.Common.{◌∷◌}
use Rattle.document_trees.specs.declared.nodes.Item.TheVariants.{Element}
use Rattle.article_tree.specs.Sizes.{total_of, steps_of}
use Rattle.article_tree.proofs.Sized.{first_goes, run_on, comment_on, pi_on}
use Rattle.article_tree.proofs.sizing.size_item.Goals as goal

pub returns-in-Element : goal.returns-in-Element
returns-in-Element c = first_goes c.size_element.result c.args.work.now c.size_element.new.work (Element c.in-Element.node ∷ c.args.after.now) (rw c.in-Element.is at c.requires) c.size_element.ensures

pub returns-in-Chars : goal.returns-in-Chars
unfolding total_of steps_of
returns-in-Chars c =
    let w = c.args.work.now in
    run_on w.total c.count_run-work.result c.in-Chars.text c.in-Chars.plain w.items.now c.args.after.now w.waiting.items (rw c.in-Chars.is at c.requires) (rw c.as_slice.ensures at c.count_run-work.ensures)

pub returns-in-Comment : goal.returns-in-Comment
unfolding total_of steps_of
returns-in-Comment c =
    let w = c.args.work.now in
    comment_on w.total c.count_comment-work.result _ w.items.now c.args.after.now w.waiting.items (rw c.in-Comment.is at c.requires) (rw c.as_slice-in-Comment.ensures at c.count_comment-work.ensures)

pub returns-in-Pi : goal.returns-in-Pi
unfolding total_of steps_of
returns-in-Pi c =
    let w = c.args.work.now in
    pi_on w.total c.count_instruction-work.result c.in-Pi.target c.in-Pi.body w.items.now c.args.after.now w.waiting.items (rw c.in-Pi.is at c.requires) (rw c.as_slice-in-Pi.ensures at c.count_instruction-work.ensures)
