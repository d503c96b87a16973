-- Items and open elements as a program holds them.
use Rattle.std.proofs.Common.{◌≡◌, ◌∙◌, ℕ, ◌+◌, ◌&&◌, List, [], ◌∷◌, ◌++◌, length, Bool, Option, Some, None, refl, ap, sym, arith}
use Rattle.document_trees.specs.Trees.{Items, Node}
use Rattle.document_trees.specs.Trees as tree
use Rattle.document_trees.specs.Seen as seen
use Rattle.document_trees.specs.Seen.{items_of}
use Rattle.document_trees.specs.declared.nodes.Item.{Item}
use Rattle.document_trees.specs.declared.nodes.Item.TheVariants.{Element, Chars, Comment, Pi}
use Rattle.article_tree.specs.Content.{joined, run}
use Rattle.article_tree.specs.Held.{held_items, open_of, stacked, IsOther, EndsApart}
use Rattle.article_tree.specs.Reading.{Open, State, put, popped}
use Rattle.article_tree.specs.declared.held.Run.{Run}
use Rattle.article_tree.specs.declared.held.OpenElement.{OpenElement}
use Rattle.article_tree.proofs.Joining.{joined_nothing, joined_assoc}

run_other : (text : List ℕ) (plain : Bool) (item : Item) → IsOther item → run text plain (seen.put item tree.nothing) ≡ tree.chars text plain (seen.put item tree.nothing)
run_other text plain (Element node) other = refl
run_other text plain (Chars more is) other = absurd other
run_other text plain (Comment more) other = refl
run_other text plain (Pi target body) other = refl

-- what is behind a run that is not the last item
pub behind_run : (text : List ℕ) (plain : Bool) (item : Item) (items : List Item) (x : Items) → joined (tree.chars text plain (items_of (item ∷ items))) x ≡ tree.chars text plain (joined (items_of (item ∷ items)) x)
behind_run text plain (Element node) items x = refl
behind_run text plain (Chars more is) items x = refl
behind_run text plain (Comment more) items x = refl
behind_run text plain (Pi target body) items x = refl

-- an item that is no run, behind any items
pub other_joined : (items : List Item) (item : Item) → IsOther item → items_of (items ++ item ∷ []) ≡ joined (items_of items) (seen.put item tree.nothing)
other_joined [] item other = refl
other_joined (Element node ∷ items) item other = ap (tree.element node.name node.atts node.items) (other_joined items item other)
other_joined (Chars text plain ∷ []) item other = sym (run_other text plain item other)
other_joined (Chars text plain ∷ next ∷ items) item other =
    ap (tree.chars text plain) (other_joined (next ∷ items) item other) ∙ sym (behind_run text plain next items (seen.put item tree.nothing))
other_joined (Comment text ∷ items) item other = ap (tree.comment text) (other_joined items item other)
other_joined (Pi target body ∷ items) item other = ap (tree.pi target body) (other_joined items item other)

-- a run behind items of which the last is none
pub run_joined_last : (items : List Item) (text : List ℕ) (plain : Bool) → EndsApart items → items_of (items ++ Chars text plain ∷ []) ≡ joined (items_of items) (tree.chars text plain tree.nothing)
run_joined_last [] text plain apart = refl
run_joined_last (Element node ∷ []) text plain apart = refl
run_joined_last (Chars more is ∷ []) text plain apart = absurd apart
run_joined_last (Comment more ∷ []) text plain apart = refl
run_joined_last (Pi target body ∷ []) text plain apart = refl
run_joined_last (Element node ∷ next ∷ items) text plain apart = ap (tree.element node.name node.atts node.items) (run_joined_last (next ∷ items) text plain apart)
run_joined_last (Chars more is ∷ next ∷ items) text plain apart =
    ap (tree.chars more is) (run_joined_last (next ∷ items) text plain apart) ∙ sym (behind_run more is next items (tree.chars text plain tree.nothing))
run_joined_last (Comment more ∷ next ∷ items) text plain apart = ap (tree.comment more) (run_joined_last (next ∷ items) text plain apart)
run_joined_last (Pi target body ∷ next ∷ items) text plain apart = ap (tree.pi target body) (run_joined_last (next ∷ items) text plain apart)

pub other_ends : (items : List Item) (item : Item) → IsOther item → EndsApart (items ++ item ∷ [])
other_ends [] item other = other
other_ends (first ∷ []) item other = other
other_ends (first ∷ next ∷ items) item other = other_ends (next ∷ items) item other

-- ---- runs

pub run_begun : (items : List Item) (text : List ℕ) (plain : Bool) → held_items items (Some (record { text = text; plain = plain })) ≡ joined (held_items items None) (tree.chars text plain tree.nothing)
run_begun items text plain = ap (λ (x : Items). joined x (tree.chars text plain tree.nothing)) (sym (joined_nothing (items_of items)))

pub run_longer : (items : List Item) (text more : List ℕ) (plain is : Bool) → held_items items (Some (record { text = text ++ more; plain = plain && is })) ≡ joined (held_items items (Some (record { text = text; plain = plain }))) (tree.chars more is tree.nothing)
run_longer items text more plain is = sym (joined_assoc (items_of items) (tree.chars text plain tree.nothing) (tree.chars more is tree.nothing))

pub run_none : (items : List Item) → items_of items ≡ held_items items None
run_none items = sym (joined_nothing (items_of items))

-- ---- open elements

stacked_last : (os : List OpenElement) (o : OpenElement) (opens : List Open) → stacked (os ++ o ∷ []) opens ≡ open_of o ∷ stacked os opens
stacked_last [] o opens = refl
stacked_last (p ∷ os) o opens = stacked_last os o (open_of p ∷ opens)

pub stacked_push : (os : List OpenElement) (o : OpenElement) → stacked (os ++ o ∷ []) [] ≡ open_of o ∷ stacked os []
stacked_push os o = stacked_last os o []

stacked_more : (os : List OpenElement) (opens : List Open) → length (stacked os opens) ≡ length os + length opens
stacked_more [] opens = omega arith
stacked_more (o ∷ os) opens = let e = stacked_more os (open_of o ∷ opens) in omega (arith, e)

pub stacked_length : (os : List OpenElement) → length (stacked os []) ≡ length os
stacked_length os = let e = stacked_more os [] in omega (arith, e)

-- ---- states

abbrev pub state_with : List Open → Items → ℕ → State
state_with opens items spent = record { opens = opens; items = items; spent = spent }

pub chars_begun : (opens : List Open) (items : List Item) (was : Option Run) (r : Run) (text : List ℕ) (plain : Bool) (spent : ℕ) → was ≡ None → r ≡ record { text = text; plain = plain }
    → state_with opens (held_items items (Some r)) spent ≡ put (state_with opens (held_items items was) spent) (tree.chars text plain tree.nothing)
chars_begun opens items was r text plain spent none is =
    let e : held_items items (Some r) ≡ joined (held_items items was) (tree.chars text plain tree.nothing) =
    ap (λ (x : Run). held_items items (Some x)) is ∙ run_begun items text plain ∙ ap (λ (x : Option Run). joined (held_items items x) (tree.chars text plain tree.nothing)) (sym none) in
    ap (λ (x : Items). state_with opens x spent) e

pub chars_longer : (opens : List Open) (items : List Item) (was : Option Run) (before r : Run) (text : List ℕ) (plain : Bool) (spent : ℕ) → was ≡ Some before → r ≡ record { text = before.text ++ text; plain = before.plain && plain }
    → state_with opens (held_items items (Some r)) spent ≡ put (state_with opens (held_items items was) spent) (tree.chars text plain tree.nothing)
chars_longer opens items was before r text plain spent some is =
    let e : held_items items (Some r) ≡ joined (held_items items was) (tree.chars text plain tree.nothing) =
    ap (λ (x : Run). held_items items (Some x)) is ∙ run_longer items before.text text before.plain plain ∙ ap (λ (x : Option Run). joined (held_items items x) (tree.chars text plain tree.nothing)) (sym some) in
    ap (λ (x : Items). state_with opens x spent) e

-- an item behind those that are held, the run being ended
pub item_put : (opens : List Open) (items now before : List Item) (was is : Option Run) (item : Item) (spent : ℕ) → IsOther item → items_of before ≡ held_items items was → is ≡ None → now ≡ before ++ item ∷ []
    → state_with opens (held_items now is) spent ≡ put (state_with opens (held_items items was) spent) (seen.put item tree.nothing)
item_put opens items now before was is item spent other ended none behind =
    let e : held_items now is ≡ joined (held_items items was) (seen.put item tree.nothing) =
    ap (held_items now) none ∙ joined_nothing (items_of now) ∙ ap items_of behind ∙ other_joined before item other ∙ ap (λ (x : Items). joined x (seen.put item tree.nothing)) ended in
    ap (λ (x : Items). state_with opens x spent) e

pub element_opened : (os now : List OpenElement) (o : OpenElement) (items before empty : List Item) (was is : Option Run) (spent : ℕ) → items_of before ≡ held_items items was → is ≡ None → empty ≡ [] → o.before.items ≡ before → now ≡ os ++ o ∷ []
    → state_with (stacked now []) (held_items empty is) spent ≡ state_with (record { name = o.name; atts = o.atts; before = held_items items was } ∷ stacked os []) tree.nothing spent
element_opened os now o items before empty was is spent ended none nil same behind =
    let left : stacked now [] ≡ record { name = o.name; atts = o.atts; before = held_items items was } ∷ stacked os [] =
    ap (λ (x : List OpenElement). stacked x []) behind ∙ stacked_push os o ∙ ap (λ (x : Items). record { name = o.name; atts = o.atts; before = x } ∷ stacked os []) (ap items_of same ∙ ended) in
    let right : held_items empty is ≡ tree.nothing = ap (held_items empty) none ∙ joined_nothing (items_of empty) ∙ ap items_of nil in
    ap (λ (x : List Open). state_with x (held_items empty is) spent) left ∙ ap (λ (x : Items). state_with (record { name = o.name; atts = o.atts; before = held_items items was } ∷ stacked os []) x spent) right

pub element_closed : (os rest : List OpenElement) (e : OpenElement) (items inside now : List Item) (was is : Option Run) (node : Node) (spent : ℕ) (o : Open) (opens : List Open)
    → os ≡ rest ++ e ∷ [] → items_of inside ≡ held_items items was → is ≡ None → node ≡ record { name = e.name; atts = e.atts; items = items_of inside } → now ≡ e.before.items ++ Element node ∷ []
    → stacked os [] ≡ o ∷ opens
    → state_with (stacked rest []) (held_items now is) spent ≡ popped (state_with (stacked os []) (held_items items was) spent) o opens
element_closed os rest e items inside now was is node spent o opens split ended none made behind top =
    let h : open_of e ∷ stacked rest [] ≡ o ∷ opens = sym (stacked_push rest e) ∙ ap (λ (x : List OpenElement). stacked x []) (sym split) ∙ top in
    let first : open_of e ≡ o = ap (head_or o) h in
    let others : stacked rest [] ≡ opens = ap tail_of h in
    let put_behind : held_items now is ≡ joined (items_of e.before.items) (tree.element node.name node.atts node.items tree.nothing) =
    ap (held_items now) none ∙ joined_nothing (items_of now) ∙ ap items_of behind ∙ other_joined e.before.items (Element node) tt in
    let made_so : joined (items_of e.before.items) (tree.element node.name node.atts node.items tree.nothing) ≡ joined (open_of e).before (tree.element (open_of e).name (open_of e).atts (held_items items was) tree.nothing) =
    ap (λ (x : Node). joined (items_of e.before.items) (tree.element x.name x.atts x.items tree.nothing)) made ∙ ap (λ (x : Items). joined (items_of e.before.items) (tree.element e.name e.atts x tree.nothing)) ended in
    ap (λ (x : List Open). state_with x (held_items now is) spent) others
    ∙ ap (λ (x : Items). state_with opens x spent) (put_behind ∙ made_so ∙ ap (λ (x : Open). joined x.before (tree.element x.name x.atts (held_items items was) tree.nothing)) first)
  where
    head_or : Open → List Open → Open
    head_or d [] = d
    head_or d (x ∷ xs) = x

    tail_of : List Open → List Open
    tail_of [] = []
    tail_of (x ∷ xs) = xs
