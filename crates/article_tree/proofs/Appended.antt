-- Texts to which parts are appended.
use Rattle.std.proofs.Common.{◌≡◌, ◌∙◌, ◌≢◌, ℕ, ◌+◌, ◌<◌, List, [], ◌∷◌, ◌++◌, length, Bool, true, false, cond, Result, Ok, Err, subst, ap, sym, refl, arith, append_assoc}
use Rattle.std.specs.Prelude.{OnOk, codes, ◌==◌}
use Rattle.std.proofs.lemmas.Bool.{eqb-true, false≢true}
use Rattle.std.specs.Fmt.{digits}
use Rattle.std.specs.List.{flat_map}
use Rattle.std.specs.Bool.{OnTrue, OnFalse}
use Rattle.jats_chars.specs.Classes.{is_space}
use Rattle.document_trees.specs.Trees.{Attribute, Items, Node}
use Rattle.document_trees.specs.Trees as tree
use Rattle.document_trees.specs.Seen.{items_of, put}
use Rattle.document_trees.specs.declared.nodes.Item.{Item}
use Rattle.document_trees.specs.declared.nodes.Item.TheVariants.{Element, Chars, Comment, Pi}
use Rattle.decl_set.proofs.ValueFacts.{space_left}
use Rattle.decl_set.specs.ValueEscaped.{decimal_reference}
use Rattle.article_tree.specs.Writing.{write, written, written_run, written_comment, written_pi, written_attribute, tag_front, end_tag, enclosed}
use Rattle.article_tree.specs.WritingSteps.{tail_of, ends_of, steps_in, all_steps, whole, steps, whole_of, steps_of, Writes, WritesOn}
use Rattle.article_tree.specs.declared.writing.Waiting.{Waiting}
use Rattle.article_tree.specs.declared.writing.Writing.{Writing}

pub shown : {E : Type 0} (r : Result (Unit {0}) E) (now out t s : List ℕ) → OnOk r (now ≡ out ++ t) → t ≡ s → OnOk r (now ≡ out ++ s)
shown r now out t s h e = rw (sym e) h

pub nine : (c : ℕ) → c ≡ 9 → codes "&#9;" ≡ decimal_reference c
unfolding digits
nine c is = rw is refl

pub ten : (c : ℕ) → c ≡ 10 → codes "&#10;" ≡ decimal_reference c
unfolding digits
ten c is = rw is refl

pub thirteen : (c : ℕ) → c ≡ 13 → codes "&#13;" ≡ decimal_reference c
unfolding digits
thirteen c is = rw is refl

pub thirty_two : (c : ℕ) → is_space c ≡ true → c ≢ 9 → c ≢ 10 → c ≢ 13 → codes "&#32;" ≡ decimal_reference c
unfolding digits
thirty_two c is a b d = rw (space_left c a b d is) refl

pub shape_of : (name attributes e : List ℕ) → codes "<" ++ (name ++ (attributes ++ e)) ≡ (codes "<" ++ (name ++ attributes)) ++ e
shape_of name attributes e = simp append_assoc refl

-- ---- items that are still to be written

tail_last : (ws : List Waiting) (w : Waiting) → ends_of (ws ++ w ∷ []) ≡ tail_of w ++ ends_of ws
tail_last [] w = append_nil (tail_of w)
  where
    append_nil : (xs : List ℕ) → xs ≡ xs ++ []
    append_nil [] = refl
    append_nil (x ∷ xs) = ap (λ (t : List ℕ). x ∷ t) (append_nil xs)
tail_last (v ∷ ws) w = ap (λ (t : List ℕ). t ++ tail_of v) (tail_last ws w) ∙ append_assoc (tail_of w) (ends_of ws) (tail_of v)

steps_last : (ws : List Waiting) (w : Waiting) → all_steps (ws ++ w ∷ []) ≡ all_steps ws + (1 + steps_in (items_of w.later.now))
steps_last [] w = omega arith
steps_last (v ∷ ws) w = let e = steps_last ws w in omega (arith, e)

pub item_written : (out now some : List ℕ) (item : Item) (items after : List Item) (ws : List Waiting) → items ≡ item ∷ after → now ≡ out ++ some → written (put item (items_of after)) ≡ some ++ written (items_of after)
    → whole now after ws ≡ whole out items ws
item_written out now some item items after ws split put_behind is =
    ap (λ (t : List ℕ). t ++ (written (items_of after) ++ ends_of ws)) put_behind
    ∙ append_assoc out some (written (items_of after) ++ ends_of ws)
    ∙ ap (λ (t : List ℕ). out ++ t) (sym (append_assoc some (written (items_of after)) (ends_of ws)) ∙ ap (λ (t : List ℕ). t ++ ends_of ws) (sym is ∙ ap (λ (x : List Item). written (items_of x)) (sym split)))

pub element_entered : (out now : List ℕ) (node : Node) (items after inside : List Item) (ws more : List Waiting) (w : Waiting) → items ≡ Element node ∷ after → inside ≢ [] → items_of inside ≡ node.items
    → now ≡ out ++ (tag_front node.name node.atts ++ codes ">") → w.name.now ≡ node.name → w.later.now ≡ after → more ≡ ws ++ w ∷ [] → whole now inside more ≡ whole out items ws
element_entered out now node items after inside ws more w split some is put_behind name later behind =
    let front = tag_front node.name node.atts in
    let rest = written (items_of after) ++ ends_of ws in
    let end = end_tag node.name in
    let text : written (items_of items) ≡ (front ++ enclosed node.name node.items (written node.items)) ++ written (items_of after) =
    ap (λ (x : List Item). written (items_of x)) split ∙ ap (λ (t : List ℕ). t ++ written (items_of after)) (shape_of node.name (flat_map written_attribute node.atts) (enclosed node.name node.items (written node.items))) in
    let full : enclosed node.name node.items (written node.items) ≡ codes ">" ++ (written (items_of inside) ++ end) =
    ap (λ (x : Items). enclosed node.name x (written x)) (sym is) ∙ enclosed_some node.name inside (written (items_of inside)) some in
    let waiting_text : ends_of more ≡ (end ++ written (items_of after)) ++ ends_of ws =
    ap ends_of behind ∙ tail_last ws w ∙ ap (λ (t : List ℕ). (end_tag t ++ written (items_of w.later.now)) ++ ends_of ws) name ∙ ap (λ (x : List Item). (end ++ written (items_of x)) ++ ends_of ws) later in
    ap (λ (t : List ℕ). t ++ (written (items_of inside) ++ ends_of more)) put_behind
    ∙ ap (λ (t : List ℕ). (out ++ (front ++ codes ">")) ++ (written (items_of inside) ++ t)) waiting_text
    ∙ regroup out front (codes ">") (written (items_of inside)) end (written (items_of after)) (ends_of ws)
    ∙ ap (λ (t : List ℕ). out ++ (((front ++ t) ++ written (items_of after)) ++ ends_of ws)) (sym full)
    ∙ ap (λ (t : List ℕ). out ++ (t ++ ends_of ws)) (sym text)
  where
    regroup : (a b c d e f g : List ℕ) → (a ++ (b ++ c)) ++ (d ++ ((e ++ f) ++ g)) ≡ a ++ (((b ++ (c ++ (d ++ e))) ++ f) ++ g)
    regroup a b c d e f g = simp append_assoc refl

    enclosed_some : (name : List ℕ) (inside : List Item) (t : List ℕ) → inside ≢ [] → enclosed name (items_of inside) t ≡ codes ">" ++ (t ++ end_tag name)
    enclosed_some name [] t some = absurd (some refl)
    enclosed_some name (Element node ∷ inside) t some = refl
    enclosed_some name (Chars text plain ∷ inside) t some = refl
    enclosed_some name (Comment text ∷ inside) t some = refl
    enclosed_some name (Pi target body ∷ inside) t some = refl

pub element_left : (out now : List ℕ) (items : List Item) (ws more : List Waiting) (w : Waiting) → items ≡ [] → more ≡ ws ++ w ∷ [] → now ≡ out ++ end_tag w.name.now → whole now w.later.now ws ≡ whole out items more
element_left out now items ws more w none behind put_behind =
    let end = end_tag w.name.now in
    let later = written (items_of w.later.now) in
    ap (λ (t : List ℕ). t ++ (later ++ ends_of ws)) put_behind ∙ append_assoc out end (later ++ ends_of ws)
    ∙ ap (λ (t : List ℕ). out ++ t) (sym (append_assoc end later (ends_of ws)) ∙ sym (tail_last ws w) ∙ ap ends_of (sym behind))
    ∙ ap (λ (x : List Item). out ++ (written (items_of x) ++ ends_of more)) (sym none)

-- ---- steps

pub left_steps : (items : List Item) (ws more : List Waiting) (w : Waiting) → items ≡ [] → more ≡ ws ++ w ∷ [] → steps_in (items_of w.later.now) + all_steps ws < steps_in (items_of items) + all_steps more
left_steps items ws more w none behind = let e = steps_last ws w in rw (none, behind) (omega (arith, e))

pub entered_steps : (node : Node) (items after inside : List Item) (ws more : List Waiting) (w : Waiting) → items ≡ Element node ∷ after → items_of inside ≡ node.items → w.later.now ≡ after → more ≡ ws ++ w ∷ []
    → steps_in (items_of inside) + all_steps more < steps_in (items_of items) + all_steps ws
entered_steps node items after inside ws more w split is later behind = let e = steps_last ws w in rw (split, behind, is) (omega (arith, e, ap (λ (x : List Item). steps_in (items_of x)) later))

pub item_steps : (item : Item) (items after : List Item) (ws : List Waiting) → items ≡ item ∷ after → steps_in (items_of after) + all_steps ws < steps_in (items_of items) + all_steps ws
item_steps item items after ws split = rw split (by item)
  where
    by : (item : Item) → steps_in (items_of after) + all_steps ws < steps_in (items_of (item ∷ after)) + all_steps ws
    by (Element node) = omega arith
    by (Chars text plain) = omega arith
    by (Comment text) = omega arith
    by (Pi target body) = omega arith

pub empty_written : (node : Node) (inside after : List Item) → inside ≡ [] → items_of inside ≡ node.items → written (put (Element node) (items_of after)) ≡ (tag_front node.name node.atts ++ codes "/>") ++ written (items_of after)
empty_written node inside after none is =
    let nil : tree.nothing ≡ node.items = ap items_of (sym none) ∙ is in
    ap (λ (t : List ℕ). t ++ written (items_of after)) (shape_of node.name (flat_map written_attribute node.atts) (enclosed node.name node.items (written node.items))
    ∙ ap (λ (x : Items). tag_front node.name node.atts ++ enclosed node.name x (written x)) (sym nil))

pub all_written : (out : List ℕ) (items : List Item) (ws : List Waiting) → items ≡ [] → ws ≡ [] → whole out items ws ≡ out
all_written out items ws none over = ap (λ (x : List Item). whole out x ws) none ∙ ap (λ (x : List Waiting). whole out [] x) over ∙ append_nil out
  where
    append_nil : (xs : List ℕ) → xs ++ [] ≡ xs
    append_nil [] = refl
    append_nil (x ∷ xs) = ap (λ (t : List ℕ). x ∷ t) (append_nil xs)

-- ---- elements by their parts

abbrev pub node_of : List ℕ → List Attribute → List Item → Node
node_of name atts inside = record { name = name; atts = atts; items = items_of inside }

none_inside : (inside : List Item) (b : Bool) → b ≡ (length inside == 0) → b ≡ true → inside ≡ []
none_inside [] b is e = refl
none_inside (i ∷ inside) b is e = let h : length (i ∷ inside) ≡ 0 = eqb-true (length (i ∷ inside)) 0 (sym is ∙ e) in absurd (omega (arith, h))

some_inside : (inside : List Item) (b : Bool) → b ≡ (length inside == 0) → b ≡ false → inside ≢ []
some_inside inside b is e none = false≢true (sym e ∙ is ∙ ap (λ (x : List Item). length x == 0) none)

pub empty_put : (out first now name : List ℕ) (atts : List Attribute) (inside items after : List Item) (ws : List Waiting) (b : Bool) → items ≡ Element (node_of name atts inside) ∷ after → b ≡ (length inside == 0) → b ≡ true
    → first ≡ out ++ tag_front name atts → now ≡ first ++ codes "/>" → (whole now after ws ≡ whole out items ws) × (steps_in (items_of after) + all_steps ws < steps_in (items_of items) + all_steps ws)
empty_put out first now name atts inside items after ws b split is none one two =
    let node = node_of name atts inside in (
      item_written out now (tag_front name atts ++ codes "/>") (Element node) items after ws split (two ∙ ap (λ (t : List ℕ). t ++ codes "/>") one ∙ append_assoc out (tag_front name atts) (codes "/>"))
          (empty_written node inside after (none_inside inside b is none) refl),
      item_steps (Element node) items after ws split,
    )

pub element_put : (out first now name : List ℕ) (atts : List Attribute) (inside items after : List Item) (ws more : List Waiting) (w : Waiting) (b : Bool) → items ≡ Element (node_of name atts inside) ∷ after → b ≡ (length inside == 0) → b ≡ false
    → first ≡ out ++ tag_front name atts → now ≡ first ++ codes ">" → w.name.now ≡ name → w.later.now ≡ after → more ≡ ws ++ w ∷ []
    → (whole now inside more ≡ whole out items ws) × (steps_in (items_of inside) + all_steps more < steps_in (items_of items) + all_steps ws)
element_put out first now name atts inside items after ws more w b split is some one two named later behind =
    let node = node_of name atts inside in (
      element_entered out now node items after inside ws more w split (some_inside inside b is some) refl (two ∙ ap (λ (t : List ℕ). t ++ codes ">") one ∙ append_assoc out (tag_front name atts) (codes ">")) named later behind,
      entered_steps node items after inside ws more w split refl later behind,
    )

pub run_put : (out now text : List ℕ) (plain : Bool) (items after : List Item) (ws : List Waiting) → items ≡ Chars text plain ∷ after → now ≡ out ++ written_run text plain
    → (whole now after ws ≡ whole out items ws) × (steps_in (items_of after) + all_steps ws < steps_in (items_of items) + all_steps ws)
run_put out now text plain items after ws split is =
    (item_written out now (written_run text plain) (Chars text plain) items after ws split is refl, item_steps (Chars text plain) items after ws split)

pub comment_put : (out now text : List ℕ) (items after : List Item) (ws : List Waiting) → items ≡ Comment text ∷ after → now ≡ out ++ written_comment text
    → (whole now after ws ≡ whole out items ws) × (steps_in (items_of after) + all_steps ws < steps_in (items_of items) + all_steps ws)
comment_put out now text items after ws split is =
    (item_written out now (written_comment text) (Comment text) items after ws split is refl, item_steps (Comment text) items after ws split)

pub pi_put : (out now target body : List ℕ) (items after : List Item) (ws : List Waiting) → items ≡ Pi target body ∷ after → now ≡ out ++ written_pi target body
    → (whole now after ws ≡ whole out items ws) × (steps_in (items_of after) + all_steps ws < steps_in (items_of items) + all_steps ws)
pi_put out now target body items after ws split is =
    (item_written out now (written_pi target body) (Pi target body) items after ws split is refl, item_steps (Pi target body) items after ws split)

pub none_waits : (ws : List Waiting) → length ws ≡ 0 → ws ≡ []
none_waits [] none = refl
none_waits (w ∷ ws) none = absurd (omega (arith, none))

-- ---- going on

pub first_on : {E : Type 0} (r : Result (Unit {0}) E) (old new : Writing) (items : List Item) → old.items.now ≡ items → OnOk r (WritesOn items old new) → OnOk r (Writes old new)
unfolding whole_of steps_of
first_on (Ok u) old new items is h =
    let P : List Item → Type 0 = λ t. (whole new.out new.items.now new.waiting.items ≡ whole old.out t old.waiting.items) × (steps new.items.now new.waiting.items < steps t old.waiting.items) in
    subst P (sym is) h
first_on (Err e) old new items is h = tt

pub step_keeps : (old new : Writing) (said : List ℕ) (more : Bool) → OnTrue more (Writes old new) → OnFalse more (whole_of old ≡ new.out) → whole_of old ≡ said → OnTrue more (whole_of new ≡ said) × OnFalse more (new.out ≡ said)
step_keeps old new said true goes all is = (goes.0 ∙ is, tt)
step_keeps old new said false goes all is = (tt, sym all ∙ is)

pub step_falls : (old new : Writing) (more : Bool) → OnTrue more (Writes old new) → cond more (steps_of new + 1) 0 < steps_of old + 1
step_falls old new true goes = omega (arith, goes.1)
step_falls old new false goes = omega arith

pub node_begun : (node : Node) (empty : List Item) (ws : List Waiting) (out : List ℕ) → empty ≡ [] → ws ≡ [] → out ≡ [] → whole out (Element node ∷ empty) ws ≡ write node
node_begun node empty ws out none alone blank =
    ap (λ (x : List Item). whole out (Element node ∷ x) ws) none ∙ ap (λ (x : List Waiting). whole out (Element node ∷ []) x) alone ∙ ap (λ (x : List ℕ). whole x (Element node ∷ []) []) blank ∙ append_nil (written (items_of (Element node ∷ [])))
  where
    append_nil : (xs : List ℕ) → xs ++ [] ≡ xs
    append_nil [] = refl
    append_nil (x ∷ xs) = ap (λ (t : List ℕ). x ∷ t) (append_nil xs)
