-- What a tree under way comes to stays the same, step by step.
use Rattle.std.proofs.Common.{◌≡◌, ◌∙◌, ◌<◌, ◌≤◌, ℕ, ◌+◌, ◌*◌, List, [], ◌∷◌, ◌++◌, Bool, refl, sym, ap, subst, arith, Option, Some, None, Result, Ok, Err, slice_get, IfSome}
use Rattle.content_models.specs.declared.content.Content.{Content}
use Rattle.content_models.specs.Model.{Chars}
use Rattle.document_trees.specs.Trees.{Attribute, Items, nothing, element, chars, comment, pi, Node, joined, elements_in, size}
use Rattle.decl_set.specs.Declarations.{Element}
use Rattle.exact_tables.proofs.Choosing.{same-node}
use Rattle.separating_article.specs.Choosing.{next_step}
use Rattle.separating_article.specs.Guides.{IsGuide}
use Rattle.separating_article.specs.Openings.{way_of, path_of}
use Rattle.separating_article.specs.Paths.{IsTreeOf}
use Rattle.separating_article.specs.Sizes.{atts_size, names_size, is_empty, items_size, written_size}
use Rattle.separating_article.specs.Growing.{Starts, begun_node, begun_size, IsNext, Gets, EachGets, ended, around, all_size, Stands, steps_of, with_child}
use Rattle.separating_article.specs.declared.choosing.Step.{Step}
use Rattle.separating_article.specs.declared.fault.BuildOver.{BuildOver}
use Rattle.separating_article.specs.declared.fault.BuildOver.TheVariants.{TextOver}
use Rattle.separating_article.specs.declared.guide.Guide.{Guide}
use Rattle.separating_article.specs.declared.growing.Started.{Started}
use Rattle.separating_article.proofs.NextSteps.{told}
use Rattle.separating_article.proofs.Opened.{BeginsBy, begins, comes, opened_size, opened_items}

-- ---- items behind others

joined_nothing : (a : Items) → joined a nothing ≡ a
joined_nothing nothing = refl
joined_nothing (element name atts inside later) = ap (element name atts inside) (joined_nothing later)
joined_nothing (chars text plain later) = ap (chars text plain) (joined_nothing later)
joined_nothing (comment text later) = ap (comment text) (joined_nothing later)
joined_nothing (pi target body later) = ap (pi target body) (joined_nothing later)

joined_assoc : (a b c : Items) → joined (joined a b) c ≡ joined a (joined b c)
joined_assoc nothing b c = refl
joined_assoc (element name atts inside later) b c = ap (element name atts inside) (joined_assoc later b c)
joined_assoc (chars text plain later) b c = ap (chars text plain) (joined_assoc later b c)
joined_assoc (comment text later) b c = ap (comment text) (joined_assoc later b c)
joined_assoc (pi target body later) b c = ap (pi target body) (joined_assoc later b c)

pub joined_size : (a b : Items) → elements_in (joined a b) ≡ elements_in a + elements_in b
joined_size nothing b = omega arith
joined_size (element name atts inside later) b = let h = joined_size later b in omega (arith, h)
joined_size (chars text plain later) b = joined_size later b
joined_size (comment text later) b = joined_size later b
joined_size (pi target body later) b = joined_size later b

-- ---- lists of elements that are started

all_last : (rs : List Items) (r : Items) → all_size (rs ++ r ∷ []) ≡ all_size rs + items_size r
all_last [] r = omega arith
all_last (x ∷ rs) r = let h = all_last rs r in omega (arith, h)

pub steps_last : (ws : List Started) (w : Started) → steps_of (ws ++ w ∷ []) ≡ steps_of ws + (2 * elements_in w.node.items + 1)
steps_last [] w = omega arith
steps_last (v ∷ ws) w = let h = steps_last ws w in omega (arith, h)

module _ (guide : Guide) where
  each_last : (ws : List Started) (rs : List Items) (w : Started) (r : Items) → EachGets guide ws rs → Gets guide w r → EachGets guide (ws ++ w ∷ []) (rs ++ r ∷ [])
  each_last [] [] w r h g = (g, tt)
  each_last [] (x ∷ rs) w r h g = elim h [ ]
  each_last (v ∷ ws) [] w r h g = elim h [ ]
  each_last (v ∷ ws) (x ∷ rs) w r h g = (h.0, each_last ws rs w r h.1 g)

  -- the items of the last, and those before
  record Parted (ws : List Started) (w : Started) (rs : List Items) : Type 0 where
    front : List Items
    last : Items
    is : rs ≡ front ++ last ∷ []
    each : EachGets guide ws front
    gets : Gets guide w last

  part_last : (ws : List Started) (w : Started) (rs : List Items) → EachGets guide (ws ++ w ∷ []) rs → Parted ws w rs
  part_last [] w [] h = elim h [ ]
  part_last [] w (r ∷ []) h = record { front = []; last = r; is = refl; each = tt; gets = h.0 }
  part_last [] w (r ∷ x ∷ rs) h = elim h.1 [ ]
  part_last (v ∷ ws) w [] h = elim h [ ]
  part_last (v ∷ ws) w (r ∷ rs) h =
      let t = part_last ws w rs h.1 in
      record { front = r ∷ t.front; last = t.last; is = ap (λ (x : List Items). r ∷ x) t.is; each = (h.0, t.each); gets = t.gets }

  none_gets : (rs : List Items) → EachGets guide [] rs → rs ≡ []
  none_gets [] h = refl
  none_gets (r ∷ rs) h = elim h [ ]

  around_last : (ws : List Started) (rs : List Items) (w : Started) (r : Items) (inner : Node) → EachGets guide ws rs
      → around (ws ++ w ∷ []) (rs ++ r ∷ []) inner ≡ around ws rs (ended w.node (element inner.name inner.atts inner.items r))
  around_last [] [] w r inner h = refl
  around_last [] (x ∷ rs) w r inner h = elim h [ ]
  around_last (v ∷ ws) [] w r inner h = elim h [ ]
  around_last (v ∷ ws) (x ∷ rs) w r inner h = ap (λ (n : Node). ended v.node (element n.name n.atts n.items x)) (around_last ws rs w r inner h.1)

  -- so many steps are no more than the elements of the whole
  steps_within : (ws : List Started) (rs : List Items) (inner : Node) → EachGets guide ws rs
      → steps_of ws + 2 * elements_in inner.items ≤ 2 * elements_in (around ws rs inner).items
  steps_within [] rs inner h = omega arith
  steps_within (w ∷ ws) [] inner h = elim h [ ]
  steps_within (w ∷ ws) (r ∷ rs) inner h =
      let within = around ws rs inner in
      let t = steps_within ws rs inner h.1 in
      let s = joined_size w.node.items (element within.name within.atts within.items r) in
      omega (arith, t, s)

  pub done_within : (limit : ℕ) (tree : Node) (left : ℕ) (inner : Started) (outer : List Started) → Stands guide limit tree left inner outer
      → steps_of outer + (2 * elements_in inner.node.items + 1) ≤ 2 * guide.cap
  done_within limit tree left inner outer S =
      let t = steps_within outer S.rests (ended inner.node S.rest) S.each in
      let s = joined_size inner.node.items S.rest in
      let w : elements_in (around outer S.rests (ended inner.node S.rest)).items ≡ elements_in tree.items = ap (λ (n : Node). elements_in n.items) S.whole in
      let c = S.small in
      omega (arith, t, s, w, c)

  -- ---- a step is taken

  pub started_of : (place : ℕ) (separates : Bool) (left : ℕ) (x : Element) (r : Result (Started × ℕ) BuildOver) → slice_get guide.first.now.elements place ≡ Some x
      → IfSome (slice_get guide.first.now.elements place) (λ e. Starts guide e.0 place separates left r) → Starts guide x.0 place separates left r
  started_of place separates left x r at h = subst (λ (o : Option Element). IfSome o (λ e. Starts guide e.0 place separates left r)) at h

  module _ (ok : IsGuide guide) (limit : ℕ) (tree : Node) (left : ℕ) (s : Step) (old : Started) (outer : List Started) (is : old.step ≡ Some s)
      (S : Stands guide limit tree left old outer) where
    -- what is known of the step
    next_of : IsNext guide old.node.name S.gets.0 (Some s) S.rest
    next_of = subst (λ (o : Option Step). IsNext guide old.node.name S.gets.0 o S.rest) is S.gets.2

    opened : BeginsBy guide ok s.place next_of.0 next_of.1 next_of.6 (way_of guide s.place next_of.0 s.separates) next_of.2 next_of.3
    opened = let n = next_of in begins guide ok s.place n.0 n.1 n.6 s.separates n.2 n.3 n.7

    sized : items_size S.rest ≡ begun_size guide next_of.0 (way_of guide s.place next_of.0 s.separates) (next_step guide s.place (path_of (way_of guide s.place next_of.0 s.separates)))
        + items_size opened.inside + items_size next_of.4
    sized =
        let n = next_of in
        let whole = ap items_size n.5 in
        let size = opened_size guide ok s.place n.0 n.1 n.6 (way_of guide s.place n.0 s.separates) n.2 n.3 opened in
        omega (arith, whole, size)

    pub entered : (rest : ℕ) (new w : Started) (more : List Started)
        → IfSome (slice_get guide.first.now.elements s.place) (λ e. Starts guide e.0 s.place s.separates left (Ok (new, rest)))
        → w ≡ record old { step = next_step guide old.place s.path } → more ≡ outer ++ w ∷ [] → Stands guide limit tree rest new more
    entered rest new w more started with_step behind =
        let n = next_of in
        let o = opened in
        let h = started_of s.place s.separates left (n.0, n.1) (Ok (new, rest)) n.6 started in
        let inner = o.inside in
        let later = n.4 in
        let full : Node = ended new.node inner in
        let size = sized in
        let room = S.room in
        let spent = h.1 in
        let sum = all_last S.rests later in
        record {
          rest = inner;
          rests = S.rests ++ later ∷ [];
          gets = subst (λ (v : Started). Gets guide v inner) (sym h.0) (n.1, n.6, comes guide ok s.place n.0 n.1 n.6 (way_of guide s.place n.0 s.separates) n.2 n.3 o);
          each = subst (λ (l : List Started). EachGets guide l (S.rests ++ later ∷ [])) (sym behind)
              (each_last outer S.rests w later S.each
              (subst (λ (v : Started). Gets guide v later) (sym with_step) (S.gets.0, S.gets.1, told guide ok old.place old.node.name S.gets.0 S.gets.1 s.path later n.8)));
          whole = ap (λ (l : List Started). around l (S.rests ++ later ∷ []) full) behind
              ∙ around_last outer S.rests w later full S.each
              ∙ ap (λ (v : Started). around outer S.rests (ended v.node (element full.name full.atts full.items later))) with_step
              ∙ ap (λ (v : Started). around outer S.rests (ended old.node (element v.node.name v.node.atts (joined v.node.items inner) later))) h.0
              ∙ ap (λ (x : List Attribute). around outer S.rests (ended old.node (element n.0 x (joined (begun_node guide n.0 (way_of guide s.place n.0 s.separates)).items inner) later))) (sym o.atts_are)
              ∙ ap (λ (x : Items). around outer S.rests (ended old.node (element n.0 n.2 x later)))
              (opened_items guide ok s.place n.0 n.1 n.6 (way_of guide s.place n.0 s.separates) n.2 n.3 o)
              ∙ ap (λ (x : Items). around outer S.rests (ended old.node x)) (sym n.5)
              ∙ S.whole;
          room = omega (arith, size, room, spent, sum);
          small = S.small;
        }

    pub entered_over : IfSome (slice_get guide.first.now.elements s.place) (λ e. Starts guide e.0 s.place s.separates left (Err TextOver)) → limit < written_size tree
    entered_over started =
        let n = next_of in
        let over = started_of s.place s.separates left (n.0, n.1) (Err TextOver) n.6 started in
        let size = sized in
        let room = S.room in
        omega (arith, size, room, over)

    -- the step's element is declared
    pub entered_at : (x : Element) × (slice_get guide.first.now.elements s.place ≡ Some x)
    entered_at = let n = next_of in ((n.0, n.1), n.6)

  -- ---- an element ends

  module _ (limit : ℕ) (tree : Node) (left : ℕ) (old : Started) (is : old.step ≡ None) where
    nothing_of : (outer : List Started) (S : Stands guide limit tree left old outer) → S.rest ≡ nothing
    nothing_of outer S = subst (λ (o : Option Step). IsNext guide old.node.name S.gets.0 o S.rest) is S.gets.2

    ended_nothing : (r : Items) → r ≡ nothing → ended old.node r ≡ old.node
    ended_nothing r q = same-node (ended old.node r) old.node refl refl (ap (joined old.node.items) q ∙ joined_nothing old.node.items)

    pub left_stands : (w new : Started) (outer more : List Started) → more ≡ outer ++ w ∷ [] → new ≡ with_child w old.node → Stands guide limit tree left old more
        → Stands guide limit tree left new outer
    left_stands w new outer more behind with S =
        let t = part_last outer w S.rests (subst (λ (l : List Started). EachGets guide l S.rests) behind S.each) in
        let none = nothing_of more S in
        let i = old.node in
        let room = S.room in
        let zero_size : items_size S.rest ≡ 0 = ap items_size none in
        let sum : all_size S.rests ≡ all_size t.front + items_size t.last = ap all_size t.is ∙ all_last t.front t.last in
        record {
          rest = t.last;
          rests = t.front;
          gets = subst (λ (v : Started). Gets guide v t.last) (sym with) t.gets;
          each = t.each;
          whole = ap (λ (v : Started). around outer t.front (ended v.node t.last)) with
              ∙ ap (λ (x : Items). around outer t.front (record { name = w.node.name; atts = w.node.atts; items = x })) (joined_assoc w.node.items (element i.name i.atts i.items nothing) t.last)
              ∙ ap (λ (n : Node). around outer t.front (ended w.node (element n.name n.atts n.items t.last))) (sym (ended_nothing S.rest none))
              ∙ sym (around_last outer t.front w t.last (ended old.node S.rest) t.each)
              ∙ ap (λ (rs : List Items). around (outer ++ w ∷ []) rs (ended old.node S.rest)) (sym t.is)
              ∙ ap (λ (l : List Started). around l S.rests (ended old.node S.rest)) (sym behind)
              ∙ S.whole;
          room = omega (arith, room, zero_size, sum);
          small = S.small;
        }

    pub whole_is : (outer : List Started) → outer ≡ [] → Stands guide limit tree left old outer → (old.node ≡ tree) × (left + written_size tree ≡ limit)
    whole_is outer none S =
        let empty = none_gets S.rests (subst (λ (l : List Started). EachGets guide l S.rests) none S.each) in
        let over = nothing_of outer S in
        let room = S.room in
        let zero_size : items_size S.rest ≡ 0 = ap items_size over in
        let sum : all_size S.rests ≡ 0 = ap all_size empty in (
          sym (ended_nothing S.rest over) ∙ ap (λ (l : List Started). around l S.rests (ended old.node S.rest)) (sym none) ∙ S.whole,
          omega (arith, room, zero_size, sum),
        )

  -- ---- the first element

  module _ (ok : IsGuide guide) (limit place : ℕ) (separates : Bool) (root : Chars) (a : Content) (tree : Node) (at : slice_get guide.first.now.elements place ≡ Some (root, a))
      (h : IsTreeOf guide separates root tree) where
    top : BeginsBy guide ok place root a at (way_of guide place root separates) tree.atts tree.items
    top = begins guide ok place root a at separates tree.atts tree.items h.1

    size_is : written_size tree ≡ begun_size guide root (way_of guide place root separates) (next_step guide place (path_of (way_of guide place root separates))) + items_size top.inside
    size_is =
        ap (λ (n : Chars). names_size n (is_empty tree.items) + atts_size tree.atts + items_size tree.items) h.0
        ∙ opened_size guide ok place root a at (way_of guide place root separates) tree.atts tree.items top

    pub begun : (left : ℕ) (inner : Started) → size tree ≤ guide.cap → IfSome (slice_get guide.first.now.elements place) (λ e. Starts guide e.0 place separates limit (Ok (inner, left)))
        → Stands guide limit tree left inner []
    begun left inner small started =
        let s = started_of place separates limit (root, a) (Ok (inner, left)) at started in
        let w = way_of guide place root separates in
        let spent = s.1 in
        let sized = size_is in
        record {
          rest = top.inside;
          rests = [];
          gets = subst (λ (v : Started). Gets guide v top.inside) (sym s.0) (a, at, comes guide ok place root a at w tree.atts tree.items top);
          each = tt;
          whole = ap (λ (v : Started). ended v.node top.inside) s.0
              ∙ same-node (ended (begun_node guide root w) top.inside) tree (sym h.0) (sym top.atts_are) (opened_items guide ok place root a at w tree.atts tree.items top);
          room = omega (arith, spent, sized);
          small = small;
        }

    pub begun_over : IfSome (slice_get guide.first.now.elements place) (λ e. Starts guide e.0 place separates limit (Err TextOver)) → limit < written_size tree
    begun_over started =
        let over = started_of place separates limit (root, a) (Err TextOver) at started in
        let sized = size_is in
        omega (arith, over, sized)
