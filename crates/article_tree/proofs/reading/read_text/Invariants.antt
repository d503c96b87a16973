use Rattle.std.proofs.Common.{◌≡◌, ◌+◌, cond, length}
use Rattle.std.specs.Bool.{OnTrue, OnFalse}
use Rattle.article_tree.specs.Held.{EndsApart, state_of}
use Rattle.article_tree.specs.InPlace.{article_in_place}
use Rattle.article_tree.specs.Outcomes.{standing_of}
use Rattle.article_tree.specs.Reading.{whole}
use Rattle.article_tree.specs.Works.{left_of, size_of, work_of}
use Rattle.article_tree.proofs.reading.read_text.Given as goal

-- what is left gives what the text gives, until nothing is left
abbrev pub invariant-loop-more : goal.invariant-loop-more
invariant-loop-more l =
    OnTrue l.more ((left_of l.set.entities (work_of l.held l.typed l.frame l.waiting) ≡ article_in_place l.set.entities l.place l.text) × EndsApart l.held.items.items)
    × OnFalse l.more (article_in_place l.set.entities l.place l.text ≡ whole (standing_of l.frame.stand) (length l.frame.text.now) (state_of l.held).items (state_of l.held).opens)

abbrev pub decreases-loop-more : goal.decreases-loop-more
decreases-loop-more l = cond l.more (size_of (work_of l.held l.typed l.frame l.waiting) + 1) 0
