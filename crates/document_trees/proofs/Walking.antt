-- The lists of items that a walk keeps.
use Rattle.std.proofs.Common.{◌≡◌, List, [], ◌∷◌, ◌++◌, ◌-◌, ◌<◌, suc, length, take, ap, sym, ◌∙◌, subst, refl, arith, Option, Some, None, Bor, drop, false}
use Rattle.std.specs.Prelude.{slice_set, slice_get}
use Rattle.std.specs.Option.{option_copied, is_some}
use Rattle.std.proofs.lemmas.List.{append-nil, append_assoc}
use Rattle.document_trees.specs.Trees.{Node, nodes_below}
use Rattle.document_trees.specs.Seen.{items_of}
use Rattle.document_trees.specs.Walks.{left_in, left_under, from_top}
use Rattle.document_trees.specs.declared.nodes.Item.{Item}

module _ {X : Type 0} where
  -- what stands before the last
  abbrev front : List X → List X
  front xs = take (length xs - 1) xs

  -- a list is what stands before its last, and the last
  pub ends : (xs : List X) (x : X) → slice_get xs (length xs - 1) ≡ Some x → xs ≡ front xs ++ x ∷ []
  ends [] x e = absurd (cc)
  ends (y ∷ []) x e = cc
  ends (y ∷ z ∷ xs) x e =
      let k : length (y ∷ z ∷ xs) - 1 ≡ suc (length (z ∷ xs) - 1) = omega arith in
      let h : slice_get (z ∷ xs) (length (z ∷ xs) - 1) ≡ Some x = sym (ap (slice_get (y ∷ z ∷ xs)) k) ∙ e in
      subst (λ n. y ∷ z ∷ xs ≡ take n (y ∷ z ∷ xs) ++ x ∷ []) (sym k) (ap (λ l. y ∷ l) (ends (z ∷ xs) x h))

  -- one more goes last, and the one before it is replaced
  pub replaced : (xs : List X) (a b : X) → 0 < length xs → slice_set (xs ++ b ∷ []) (length xs - 1) a ≡ front xs ++ (a ∷ b ∷ [])
  replaced [] a b h = absurd (omega arith)
  replaced (y ∷ []) a b h = refl
  replaced (y ∷ z ∷ xs) a b h =
      let k : length (y ∷ z ∷ xs) - 1 ≡ suc (length (z ∷ xs) - 1) = omega arith in
      subst (λ n. slice_set ((y ∷ z ∷ xs) ++ b ∷ []) n a ≡ take n (y ∷ z ∷ xs) ++ (a ∷ b ∷ [])) (sym k)
      (ap (λ l. y ∷ l) (replaced (z ∷ xs) a b (omega arith)))

pub left_join : (lists others : List (Bor (List Item))) → left_in (lists ++ others) ≡ left_in others ++ left_in lists
left_join [] others = sym (append-nil (left_in others))
left_join (items ∷ lists) others =
    ap (λ k. k ++ nodes_below (items_of items.now)) (left_join lists others)
    ∙ append_assoc (left_in others) (left_in lists) (nodes_below (items_of items.now))

-- the nodes in one list more come first
pub left_pushed : (lists : List (Bor (List Item))) (items : Bor (List Item)) → left_in (lists ++ items ∷ []) ≡ nodes_below (items_of items.now) ++ left_in lists
left_pushed lists items = left_join lists (items ∷ [])

pub left_last : (lists : List (Bor (List Item))) (items : Bor (List Item))
    → slice_get lists (length lists - 1) ≡ Some items → left_in lists ≡ nodes_below (items_of items.now) ++ left_under lists
left_last lists items e = ap left_in (ends lists items e) ∙ left_pushed (front lists) items

pub left_entered : (lists : List (Bor (List Item))) (after inside : Bor (List Item)) → 0 < length lists
    → left_in (slice_set (lists ++ inside ∷ []) (length lists - 1) after)
    ≡ nodes_below (items_of inside.now) ++ (nodes_below (items_of after.now) ++ left_under lists)
left_entered lists after inside h =
    ap left_in (replaced lists after inside h) ∙ left_join (front lists) (after ∷ inside ∷ [])
    ∙ append_assoc (nodes_below (items_of inside.now)) (nodes_below (items_of after.now)) (left_under lists)

-- the same of a last list that is found
pub left_found : (lists seen : List (Bor (List Item))) (last : Option (Bor (Bor (List Item)))) (items : Bor (Bor (List Item)))
    → seen ≡ lists → option_copied last ≡ slice_get seen (length seen - 1) → last ≡ Some items
    → left_in lists ≡ nodes_below (items_of items.now.now) ++ left_under lists
left_found lists seen last items e v f = left_last lists items.now (cc)

-- the nodes after the top
pub after_top : (top : Option (Bor Node)) (lists pushed : List (Bor (List Item))) (nodes : List Node) (node : Bor Node) (inside : Bor (List Item)) (kept : Node)
    → from_top (option_copied top) ++ left_in lists ≡ nodes → top ≡ Some node → kept ≡ node.now → items_of inside.now ≡ kept.items → pushed ≡ lists ++ inside ∷ []
    → left_in pushed ≡ drop 1 nodes
after_top top lists pushed nodes node inside kept w t k i p =
    let a : left_in pushed ≡ nodes_below kept.items ++ left_in lists = ap left_in p ∙ left_pushed lists inside ∙ ap (λ x. nodes_below x ++ left_in lists) i in
    let b : node.now ∷ nodes_below node.now.items ++ left_in lists ≡ nodes = sym (ap (λ x. from_top (option_copied x) ++ left_in lists) t) ∙ w in
    a ∙ ap (λ (x : Node). nodes_below x.items ++ left_in lists) k ∙ ap (drop 1) b

-- where no node is given, none is left
pub none_left : (nodes : List Node) (given : Option (Bor Node)) → option_copied given ≡ slice_get nodes 0 → is_some given ≡ false → nodes ≡ []
none_left [] given e f = refl
none_left (node ∷ nodes) None e f = absurd (cc)
none_left (node ∷ nodes) (Some x) e f = absurd (cc)
