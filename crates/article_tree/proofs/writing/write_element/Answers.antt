use Rattle.std.proofs.Common.{◌≡◌, ◌∷◌, ap, refl, sym}
use Rattle.document_trees.specs.Trees.{Node}
use Rattle.document_trees.specs.declared.nodes.Item.TheVariants.{Element}
use Rattle.article_tree.specs.WritingSteps.{whole_of, steps_of}
use Rattle.article_tree.proofs.Appended.{node_of, empty_put, element_put}
use Rattle.article_tree.proofs.writing.write_element.Goals as goal

pub returns-in_ok-push_slice : goal.returns-in_ok-push_slice
unfolding whole_of steps_of
returns-in_ok-push_slice c =
    let w = c.args.work.now in
    let n = c.node.inside in
    let v : c.args.node.now ≡ node_of n.name n.atts n.items = sym c.node.view_is in
    empty_put w.out c.put_tag.new.out c.push_slice.new.self n.name n.atts n.items (Element c.args.node.now ∷ c.args.after.now) c.args.after.now w.waiting.items c.is_empty.result (ap (λ (n : Node). Element n ∷ c.args.after.now) v) (rw c.as_slice-inside.ensures at c.is_empty.ensures) c.if-is_empty.true
    (rw c.as_slice.ensures at c.in_ok-put_tag.ensures) c.in_ok-push_slice.ensures.ok

pub returns-in_ok-push-2 : goal.returns-in_ok-push-2
unfolding whole_of steps_of
returns-in_ok-push-2 c =
    let w = c.args.work.now in
    let n = c.node.inside in
    let v : c.args.node.now ≡ node_of n.name n.atts n.items = sym c.node.view_is in
    rw c.as_slice-inside.ensures (element_put w.out c.put_tag.new.out c.push.new.self n.name n.atts n.items (Element c.args.node.now ∷ c.args.after.now) c.args.after.now w.waiting.items c.push-else-is_empty.new.self.items _ c.is_empty.result (ap (λ (n : Node). Element n ∷ c.args.after.now) v) (rw c.as_slice-inside.ensures at c.is_empty.ensures) c.if-is_empty.false
    (rw c.as_slice.ensures at c.in_ok-put_tag.ensures) c.in_ok-push.ensures.ok refl refl c.in_ok-push-2.ensures.items)
