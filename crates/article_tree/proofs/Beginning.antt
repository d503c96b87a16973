-- A reading from its beginning to its end.
use Rattle.std.proofs.Common.{◌≡◌, ◌∙◌, ℕ, ◌+◌, ◌<◌, List, [], ◌∷◌, length, map, Bool, true, false, cond, Result, Ok, refl, ap, sym, arith}
use Rattle.std.specs.Bool.{OnTrue, OnFalse}
use Rattle.jats_fault.specs.declared.fault.Fault.{Fault}
use Rattle.document_trees.specs.Trees.{Node}
use Rattle.decl_set.specs.Declarations.{Entity}
use Rattle.article_tree.specs.Frames.{Passage, IsInside, left}
use Rattle.article_tree.specs.Held.{EndsApart, state_of}
use Rattle.article_tree.specs.InPlace.{article_in_place}
use Rattle.article_tree.specs.Outcomes.{Fails, standing_of}
use Rattle.article_tree.specs.Reading.{Open, State, begun, outermost, whole}
use Rattle.article_tree.specs.Works.{Turns, left_of, passage_of, size_of}
use Rattle.article_tree.specs.declared.frames.Frame.{Frame}
use Rattle.article_tree.specs.declared.frames.Work.{Work}
use Rattle.article_tree.specs.declared.held.Held.{Held}
use Rattle.article_tree.specs.declared.stops.ArticleFault.{ArticleFault}
use Rattle.article_tree.proofs.Holding.{stacked_length}

pub inside_waiting : (fs : List Frame) (s : State) → 0 < length fs → IsInside (map passage_of fs) s
inside_waiting [] s some = absurd (omega (arith, some))
inside_waiting (f ∷ fs) s some = tt

some_open : (opens : List Open) → 0 < length opens → (o : Open) × (os : List Open) × (opens ≡ o ∷ os)
some_open [] some = absurd (omega (arith, some))
some_open (o ∷ os) some = (o, os, refl)

pub inside_open : (fs : List Frame) (h : Held) → 0 < length h.opens.items → IsInside (map passage_of fs) (state_of h)
inside_open [] h some = some_open (state_of h).opens (let e = stacked_length h.opens.items in omega (arith, e, some))
inside_open (f ∷ fs) h some = tt

-- the work at its beginning
pub begins : (entities : List Entity) (w : Work) (article text : List ℕ) → w.typed ≡ false → w.waiting.items ≡ [] → state_of w.held ≡ begun 0
    → passage_of w.frame ≡ record { text = text; names = []; base = 0; standing = outermost article; at = 0 } → left_of entities w ≡ article_in_place entities article text
unfolding left_of article_in_place
begins entities w article text fresh none state at =
    let p : Passage = record { text = text; names = []; base = 0; standing = outermost article; at = 0 } in
    ap (λ (b : Bool). left entities b (map passage_of w.waiting.items) (passage_of w.frame) (state_of w.held)) fresh
    ∙ ap (λ (t : List Frame). left entities false (map passage_of t) (passage_of w.frame) (state_of w.held)) none
    ∙ ap (λ (q : Passage). left entities false [] q (state_of w.held)) at
    ∙ ap (left entities false [] p) state

-- a step keeps what is left, until nothing is, and comes nearer to the end
pub keeps : (entities : List Entity) (old new : Work) (said : Result Node Fault) (more : Bool) → Turns entities old new (Ok more) → left_of entities old ≡ said
    → OnTrue more ((left_of entities new ≡ said) × EndsApart new.held.items.items)
    × OnFalse more (said ≡ whole (standing_of new.frame.stand) (length new.frame.text.now) (state_of new.held).items (state_of new.held).opens)
keeps entities old new said true turns is = ((turns.same ∙ is, turns.apart), tt)
keeps entities old new said false turns is = (tt, sym is ∙ turns)

pub smaller : (entities : List Entity) (old new : Work) (more : Bool) → Turns entities old new (Ok more) → cond more (size_of new + 1) 0 < size_of old + 1
smaller entities old new true turns = let n = turns.nearer in omega (arith, n)
smaller entities old new false turns = omega arith

pub fails_said : (fault : ArticleFault) (x said : Result Node Fault) → x ≡ said → Fails fault x → Fails fault said
fails_said fault x said is fails = rw (sym is) fails
