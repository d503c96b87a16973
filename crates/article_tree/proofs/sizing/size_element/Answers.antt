use Rattle.std.proofs.Common.{◌≡◌, ◌∷◌, ap, refl, sym}
use Rattle.document_trees.specs.Trees.{Node}
use Rattle.document_trees.specs.declared.nodes.Item.TheVariants.{Element}
use Rattle.article_tree.specs.Sizes.{total_of, steps_of}
use Rattle.article_tree.proofs.Appended.{node_of}
use Rattle.article_tree.proofs.Sized.{empty_on, element_on}
use Rattle.article_tree.proofs.sizing.size_element.Goals as goal

pub returns-then-is_empty : goal.returns-then-is_empty
unfolding total_of steps_of
returns-then-is_empty c =
    let w = c.args.work.now in
    let n = c.node.inside in
    let v : c.args.node.now ≡ node_of n.name n.atts n.items = sym c.node.view_is in
    empty_on w.total c.count_tag-front.result c.saturating_add-work.result n.name n.atts n.items (Element c.args.node.now ∷ c.args.after.now) c.args.after.now w.waiting.items c.is_empty.result (ap (λ (n : Node). Element n ∷ c.args.after.now) v) (rw c.as_slice-inside.ensures at c.is_empty.ensures) c.if-is_empty.true
    (rw c.as_slice.ensures at c.count_tag-front.ensures) c.saturating_add-work.ensures

pub returns-in_ok-push : goal.returns-in_ok-push
unfolding total_of steps_of
returns-in_ok-push c =
    let w = c.args.work.now in
    let n = c.node.inside in
    let v : c.args.node.now ≡ node_of n.name n.atts n.items = sym c.node.view_is in
    rw c.as_slice-inside.ensures (element_on w.total c.count_tag-front.result c.saturating_add-work-else-is_empty.result n.name n.atts n.items (Element c.args.node.now ∷ c.args.after.now) c.args.after.now w.waiting.items c.push.new.self.items _ c.is_empty.result (ap (λ (n : Node). Element n ∷ c.args.after.now) v) (rw c.as_slice-inside.ensures at c.is_empty.ensures) c.if-is_empty.false
    (rw c.as_slice.ensures at c.count_tag-front.ensures) c.saturating_add-work-else-is_empty.ensures refl refl c.in_ok-push.ensures.items)
