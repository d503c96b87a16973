use Rattle.std.proofs.Common.{◌≡◌, false, None, refl}
use Rattle.article_tree.specs.Held.{state_of}
use Rattle.article_tree.specs.Reading.{begun}
use Rattle.article_tree.specs.Works.{work_of}
use Rattle.article_tree.specs.declared.frames.Frame.{Frame}
use Rattle.article_tree.specs.declared.held.Held.{Held}
use Rattle.article_tree.proofs.Beginning.{begins}
use Rattle.article_tree.proofs.reading.read_text.Goals as goal

pub loop-more-init : goal.loop-more-init
loop-more-init c =
    let h : Held = record { opens = c.new.result; items = c.new-2.result; run = None; spent = 0 } in
    let f : Frame = record { text = c.as_slice.result; names = c.new-3.result; base = 0; stand = record { article = c.args.place; inner = None }; at = 0 } in
    let empty : state_of h ≡ begun 0 = rw (c.new.ensures.items, c.new-2.ensures.items) refl in
    ((begins c.args.set.now.entities (work_of h false f c.new-waiting.result) c.args.place.now c.args.text.now refl c.new-waiting.ensures.items empty (rw (c.as_slice.ensures, c.new-3.ensures) refl), rw c.new-2.ensures.items tt), tt)
