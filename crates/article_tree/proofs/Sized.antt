-- A count of the bytes of a text, one item at a time.
use Rattle.std.proofs.Common.{◌≡◌, ◌∙◌, ℕ, ◌+◌, ◌-◌, ◌^◌, ◌≤◌, ◌<◌, List, [], ◌∷◌, ◌++◌, length, Bool, true, false, cond, Result, Ok, Err, subst, ap, sym, refl, arith, codes}
use Rattle.std.specs.Prelude.{OnOk, ◌==◌, min, encode_utf8_all}
use Rattle.std.specs.Bool.{OnTrue, OnFalse}
use Rattle.document_trees.specs.Trees.{Attribute, Node}
use Rattle.document_trees.specs.Seen.{items_of}
use Rattle.document_trees.specs.declared.nodes.Item.{Item}
use Rattle.document_trees.specs.declared.nodes.Item.TheVariants.{Element, Chars, Comment, Pi}
use Rattle.article_tree.specs.Writing.{write, written_run, written_comment, written_pi, tag_front, end_tag}
use Rattle.article_tree.specs.WritingSteps.{steps_in, all_steps, steps, whole}
use Rattle.article_tree.specs.Sizes.{bytes, capped, Counts, Goes, GoesOn, total_of, steps_of}
use Rattle.article_tree.specs.declared.writing.Waiting.{Waiting}
use Rattle.article_tree.specs.declared.sizing.Sizing.{Sizing}
use Rattle.article_tree.proofs.Appended.{node_of, empty_put, element_put, element_left, left_steps, all_written, node_begun, run_put, comment_put, pi_put}
use Rattle.article_tree.proofs.TextSizes.{bytes_append, closes_size, closes_both_size}

-- what is counted is left to count no more
counted : (before after : ℕ) (some : List ℕ) (items later : List Item) (ws more : List Waiting) → Counts before (bytes some) after → whole some later more ≡ whole [] items ws
    → capped (after + bytes (whole [] later more)) ≡ capped (before + bytes (whole [] items ws))
counted before after some items later ws more is same =
    let p : bytes (whole [] items ws) ≡ bytes some + bytes (whole [] later more) = ap bytes (sym same) ∙ bytes_append some (whole [] later more) in
    omega (arith, is, p)

-- so many bytes more behind a text
behind : (before mid after k : ℕ) (text last : List ℕ) → bytes last ≡ k → Counts before (bytes text) mid → after ≡ min (mid + k) (2 ^ 64 - 1) → Counts before (bytes (text ++ last)) after
behind before mid after k text last size one two = let p = bytes_append text last in omega (arith, p, size, one, two)

-- an item is counted
abbrev pub IsOn : ℕ → ℕ → List Item → List Item → List Waiting → List Waiting → Type 0
IsOn before after items later ws more =
    (capped (after + bytes (whole [] later more)) ≡ capped (before + bytes (whole [] items ws))) × (steps_in (items_of later) + all_steps more < steps_in (items_of items) + all_steps ws)

pub run_on : (before after : ℕ) (text : List ℕ) (plain : Bool) (items later : List Item) (ws : List Waiting) → items ≡ Chars text plain ∷ later → Counts before (bytes (written_run text plain)) after → IsOn before after items later ws ws
run_on before after text plain items later ws split is =
    let p = run_put [] (written_run text plain) text plain items later ws split refl in
    (counted before after (written_run text plain) items later ws ws is p.0, p.1)

pub comment_on : (before after : ℕ) (text : List ℕ) (items later : List Item) (ws : List Waiting) → items ≡ Comment text ∷ later → Counts before (bytes (written_comment text)) after → IsOn before after items later ws ws
comment_on before after text items later ws split is =
    let p = comment_put [] (written_comment text) text items later ws split refl in
    (counted before after (written_comment text) items later ws ws is p.0, p.1)

pub pi_on : (before after : ℕ) (target body : List ℕ) (items later : List Item) (ws : List Waiting) → items ≡ Pi target body ∷ later → Counts before (bytes (written_pi target body)) after → IsOn before after items later ws ws
pi_on before after target body items later ws split is =
    let p = pi_put [] (written_pi target body) target body items later ws split refl in
    (counted before after (written_pi target body) items later ws ws is p.0, p.1)

pub empty_on : (before front after : ℕ) (name : List ℕ) (atts : List Attribute) (inside items later : List Item) (ws : List Waiting) (b : Bool) → items ≡ Element (node_of name atts inside) ∷ later → b ≡ (length inside == 0) → b ≡ true
    → Counts before (bytes (tag_front name atts)) front → after ≡ min (front + 2) (2 ^ 64 - 1) → IsOn before after items later ws ws
empty_on before front after name atts inside items later ws b split is none one two =
    let tag = tag_front name atts in
    let p = empty_put [] tag (tag ++ codes "/>") name atts inside items later ws b split is none refl refl in
    (counted before after (tag ++ codes "/>") items later ws ws (behind before front after 2 tag (codes "/>") closes_both_size one two) p.0, p.1)

pub element_on : (before front after : ℕ) (name : List ℕ) (atts : List Attribute) (inside items later : List Item) (ws more : List Waiting) (w : Waiting) (b : Bool) → items ≡ Element (node_of name atts inside) ∷ later
    → b ≡ (length inside == 0) → b ≡ false → Counts before (bytes (tag_front name atts)) front → after ≡ min (front + 1) (2 ^ 64 - 1) → w.name.now ≡ name → w.later.now ≡ later → more ≡ ws ++ w ∷ [] → IsOn before after items inside ws more
element_on before front after name atts inside items later ws more w b split is some one two named follows last =
    let tag = tag_front name atts in
    let p = element_put [] tag (tag ++ codes ">") name atts inside items later ws more w b split is some refl refl named follows last in
    (counted before after (tag ++ codes ">") items inside ws more (behind before front after 1 tag (codes ">") closes_size one two) p.0, p.1)

pub end_on : (before after : ℕ) (items : List Item) (ws more : List Waiting) (w : Waiting) → items ≡ [] → more ≡ ws ++ w ∷ [] → Counts before (bytes (end_tag w.name.now)) after → IsOn before after items w.later.now more ws
end_on before after items ws more w none last is =
    (counted before after (end_tag w.name.now) items w.later.now more ws is (element_left [] (end_tag w.name.now) items ws more w none last refl), left_steps items ws more w none last)

-- nothing is left
pub all_counted : (total : ℕ) (items : List Item) (ws : List Waiting) → items ≡ [] → ws ≡ [] → total ≤ 2 ^ 64 - 1 → capped (total + bytes (whole [] items ws)) ≡ total
all_counted total items ws none over small =
    let p : bytes (whole [] items ws) ≡ 0 = ap bytes (all_written [] items ws none over) in
    omega (arith, p, small)

-- ---- going on

pub first_goes : {E : Type 0} (r : Result (Unit {0}) E) (old new : Sizing) (items : List Item) → old.items.now ≡ items → OnOk r (GoesOn items old new) → OnOk r (Goes old new)
unfolding total_of steps_of
first_goes (Ok u) old new items is h =
    let P : List Item → Type 0 = λ t. (total_of new ≡ capped (old.total + bytes (whole [] t old.waiting.items))) × (steps_of new < steps t old.waiting.items) in
    subst P (sym is) h
first_goes (Err e) old new items is h = tt

pub keeps_on : (old new : Sizing) (said : ℕ) (more : Bool) → OnTrue more (Goes old new) → OnFalse more (total_of old ≡ new.total) → total_of old ≡ said → OnTrue more (total_of new ≡ said) × OnFalse more (new.total ≡ said)
keeps_on old new said true goes all is = (goes.0 ∙ is, tt)
keeps_on old new said false goes all is = (tt, sym all ∙ is)

pub falls_on : (old new : Sizing) (more : Bool) → OnTrue more (Goes old new) → cond more (steps_of new + 1) 0 < steps_of old + 1
falls_on old new true goes = omega (arith, goes.1)
falls_on old new false goes = omega arith

-- the whole node
pub node_counted : (node : Node) (empty : List Item) (ws : List Waiting) (total n : ℕ) → empty ≡ [] → ws ≡ [] → total ≡ 0 → n ≡ capped (total + bytes (whole [] (Element node ∷ empty) ws))
    → n ≡ min (length (encode_utf8_all (write node))) (2 ^ 64 - 1)
node_counted node empty ws total n none alone blank is =
    let text : bytes (whole [] (Element node ∷ empty) ws) ≡ bytes (write node) = ap bytes (node_begun node empty ws [] none alone refl) in
    let sum : total + bytes (whole [] (Element node ∷ empty) ws) ≡ bytes (write node) = omega (arith, text, blank) in
    is ∙ ap capped sum
