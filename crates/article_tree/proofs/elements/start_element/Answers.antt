use Rattle.std.proofs.Common.{map}
use Rattle.article_tree.specs.Held.{state_of}
use Rattle.article_tree.specs.Outcomes.{standing_of}
use Rattle.article_tree.specs.Taken.{raw_of, tag_of}
use Rattle.article_tree.proofs.Tagged.{started_so, moves_same}
use Rattle.article_tree.proofs.elements.start_element.Goals as goal

pub returns : goal.returns
returns c =
    moves_same _ _ c.enter_element.new.held c.enter_element.result (started_so c.args.set.now.entities c.args.chain.now (standing_of c.args.stand.now) c.args.at (state_of c.args.held.now) (tag_of c.args.tag) c.in-Ok.values _ (rw c.as_slice.ensures.value at c.in-Ok.ensures) c.in-Ok-test_repeated.ensures)
    (rw c.in_ok-name.ensures at (c.enter_element.ensures (map raw_of c.args.tag.atts.items)))
