-- Useful elements are those that chains of children reach.
use Rattle.std.proofs.Common.{◌≡◌, List, [], ◌∷◌, refl, sym, ap, ◌∙◌, subst, Bool, true, false, ◌||◌, None, true≢false, bytes_eq}
use Rattle.std.specs.List.{AllByRecursion}
use Rattle.std.proofs.lemmas.Bool.{or_left, or_right}
use Rattle.content_models.specs.Model.{Chars, among}
use Rattle.document_trees.specs.Trees.{Attribute, Items, nothing, element, chars, comment, pi, IsWellMade, EachBelow, child_names, stands_below}
use Rattle.attribute_types.proofs.TextTests.{on_test, bytes_same, bytes_own}
use Rattle.decl_set.specs.Declarations.{Declarations}
use Rattle.decl_set.specs.Asked.{IsKept}
use Rattle.decl_set.specs.Validity.{Meets, HasDocument, IsUseful}
use Rattle.position_automata.specs.Runs.{Runs}
use Rattle.tree_costs.specs.Forests.{IsForest}
use Rattle.tagset_report.specs.Chains.{IsLiveChild, Chain, UsefulByChains}
use Rattle.position_automata.proofs.States.{derives_by_runs}
use Rattle.decl_set.proofs.Suiting.{met}
use Rattle.tree_costs.proofs.Beside.{each_has_right}
use Rattle.tree_costs.proofs.Building.{node_with, topped}
use Rattle.tagset_report.proofs.Subsets.{each_document, forest, or-third}

module _ (set : Declarations) where
  live : (name : Chars) (atts : List Attribute) (inside : Items) (child : Chars) → EachBelow IsWellMade inside → EachBelow (Meets set) inside → Meets set name atts inside
      → among (child_names inside) child ≡ true → IsLiveChild set name child
  live name atts inside child w h m c =
      let t = met set name atts inside m in
      (t.content, child_names inside, t.declared, (derives_by_runs t.content (child_names inside)).0 t.derived, each_document set inside w h, c)

  -- a chain from one of the elements
  abbrev Below : Chars → Items → Type 0
  Below e items = (child : Chars) × (path : List Chars) × (among (child_names items) child ≡ true) × Chain set child path e

  later_child : (name : Chars) (names : List Chars) (child : Chars) → among names child ≡ true → among (name ∷ names) child ≡ true
  later_child name names child c = or_right (bytes_eq child name) (among names child) c

  first_child : (name : Chars) (names : List Chars) → among (name ∷ names) name ≡ true
  first_child name names = or_left (bytes_eq name name) (among names name) (bytes_own name)

  below : (e : Chars) (items : Items) → EachBelow IsWellMade items → EachBelow (Meets set) items → stands_below e items ≡ true → Below e items
  below e nothing w h s = absurd (true≢false (sym s))
  below e (element name atts inside later) w h s =
      let P : Bool → Type 0 = λ b. bytes_eq e name ≡ b → (b || stands_below e inside || stands_below e later) ≡ true → Below e (element name atts inside later) in
      let Q : Bool → Type 0 = λ b. (false || b || stands_below e later) ≡ true → Below e (element name atts inside later) in
      on_test P (bytes_eq e name)
      (λ t q s. (name, [], first_child name (child_names later), sym (bytes_same e name q)))
      (λ t q s. on_test Q (stands_below e inside)
      (λ t s. (let b = below e inside w.1 h.1 t in
      (name, b.0 ∷ b.1, first_child name (child_names later), (live name atts inside b.0 w.1 h.1 h.0 b.2, b.3))))
      (λ t s. (let b = below e later w.2 h.2 s in (b.0, b.1, later_child name (child_names later) b.0 b.2, b.3))) s)
      refl s
  below e (chars run plain later) w h s = below e later w h s
  below e (comment run later) w h s = below e later w h s
  below e (pi target body later) w h s = below e later w h s

  chained : (root e : Chars) → IsUseful set root e → (path : List Chars) × Chain set root path e
  chained root e u =
      let node = u.0 in
      let P : Bool → Type 0 = λ b. bytes_eq e node.name ≡ b → (b || stands_below e node.items) ≡ true → (path : List Chars) × Chain set root path e in
      on_test P (bytes_eq e node.name)
      (λ t q i. ([], sym (bytes_same e node.name q ∙ u.2.0)))
      (λ t q i.
      let b = below e node.items u.1.1 u.2.1.1 i in
      (b.0 ∷ b.1, (subst (λ x. IsLiveChild set x b.0) u.2.0 (live node.name node.atts node.items b.0 u.1.1 u.2.1.1 u.2.1.0 b.2), b.3)))
      refl u.3

  -- ---- and back

  or-inside : (a b c : Bool) → (a || b) ≡ true → (a || b || c) ≡ true
  or-inside true b c h = refl
  or-inside false true c h = refl
  or-inside false false c h = absurd (true≢false (sym h))

  -- a forest of these names in which e stands, below the child
  abbrev Holding : Chars → List Chars → Type 0
  Holding e names = (items : Items) × IsForest set items × (child_names items ≡ names) × (stands_below e items ≡ true)

  holding : (e x : Chars) (names : List Chars) → AllByRecursion (HasDocument set) names → among names x ≡ true → IsUseful set x e → Holding e names
  holding e x [] d c u = absurd (true≢false (sym c))
  holding e x (y ∷ ys) d c u =
      let P : Bool → Type 0 = λ b. bytes_eq x y ≡ b → (b || among ys x) ≡ true → Holding e (y ∷ ys) in
      on_test P (bytes_eq x y)
      (λ t q c.
      let f = forest set ys d.1 in
      let n = u.0 in (
        element n.name n.atts n.items f.0,
        record { alone = (f.1).alone; made = (u.1.0, u.1.1, (f.1).made); met = (u.2.1.0, u.2.1.1, (f.1).met) },
        ap (λ z. z ∷ child_names f.0) (u.2.0 ∙ bytes_same x y q) ∙ ap (λ z. y ∷ z) f.2,
        or-inside (bytes_eq e n.name) (stands_below e n.items) (stands_below e f.0) u.3,
      ))
      (λ t q c.
      let f = holding e x ys d.1 c u in
      let k = d.0 in
      let n = k.0 in (
        element n.name n.atts n.items f.0,
        record { alone = (f.1).alone; made = (k.1.0, k.1.1, (f.1).made); met = (k.2.1.0, k.2.1.1, (f.1).met) },
        ap (λ z. z ∷ child_names f.0) k.2.0 ∙ ap (λ z. y ∷ z) f.2,
        or-third (bytes_eq e n.name) (stands_below e n.items) (stands_below e f.0) f.3,
      ))
      refl c

  has_child : (names : List Chars) (x : Chars) → AllByRecursion (HasDocument set) names → among names x ≡ true → HasDocument set x
  has_child [] x d c = absurd (true≢false (sym c))
  has_child (y ∷ ys) x d c =
      let P : Bool → Type 0 = λ b. bytes_eq x y ≡ b → (b || among ys x) ≡ true → HasDocument set x in
      on_test P (bytes_eq x y) (λ t q c. subst (HasDocument set) (sym (bytes_same x y q)) d.0) (λ t q c. has_child ys x d.1 c) refl c

  useful : (k : IsKept set) (root e : Chars) (path : List Chars) → HasDocument set root → Chain set root path e → IsUseful set root e
  useful k root e [] d c =
      let same : bytes_eq e (d.0).name ≡ true = subst (λ (z : Chars). bytes_eq e z ≡ true) (sym (d.2.0 ∙ c)) (bytes_own e) in
      (d.0, d.1, d.2, or_left (bytes_eq e (d.0).name) (stands_below e (d.0).items) same)
  useful k root e (x ∷ path) d c =
      let l = c.0 in
      let u = useful k x e path (has_child l.1 x l.4 l.5) c.1 in
      let f = holding e x l.1 l.4 l.5 u in
      let h = each_has_right set root l.0 k l.2 in
      let t = topped set root l.0 f.0 h.0 None k l.2 h.1 f.1 (subst (Runs l.0 0) (sym f.2) l.3) in
      (node_with root h.0 None f.0, t.document, t.valid, or_right (bytes_eq e root) (stands_below e f.0) f.3)

pub useful_by_chains : UsefulByChains
useful_by_chains set root e k = (
  (λ u. ((u.0, u.1, u.2), chained set root e u)),
  (λ t. useful set k root e t.1.0 t.0 t.1.1),
)
