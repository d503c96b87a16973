-- A set's own graph in numbers stands for its own graph.
use Rattle.std.proofs.Common.{◌≡◌, ℕ, ◌⊎◌, inl, inr, List, [], ◌∷◌, map, Bool, true, false, refl, sym, ap, ◌∙◌, subst, Option, Some, None, slice_get, IsTrue, true≢false, Contains}
use Rattle.std.specs.Option.{option_map_or}
use Rattle.std.specs.Prelude.{option_map, ◌↔◌}
use Rattle.jats_chars.specs.Names.{is_name}
use Rattle.content_models.specs.declared.content.Content.{Content}
use Rattle.content_models.specs.Model.{Chars}
use Rattle.position_automata.specs.Automata.{FollowsOn, Accepts}
use Rattle.position_automata.specs.Stepping.{does_accept}
use Rattle.position_automata.proofs.Meaning.{to_member, contains_of}
use Rattle.position_automata.proofs.Stepping.{accepts_by_test}
use Rattle.position_automata.proofs.Words.{Member, mapped, unmapped}
use Rattle.decl_set.specs.Asked.{IsKept}
use Rattle.decl_set.specs.Declarations.{Declarations, Element, content_in}
use Rattle.decl_set.specs.Steps.{steps_in, steps_at}
use Rattle.decl_set.proofs.Found.{element_is}
use Rattle.tree_costs.specs.declared.cost.Cost.{Cost}
use Rattle.tree_costs.specs.declared.cost.Cost.TheVariants.{Inf}
use Rattle.tree_costs.specs.Costs.{IsLeast}
use Rattle.tree_costs.specs.Graphs.{Graph, Forest, bare, tree, Grows, OfTree, Path, OfPath, IsSolved, Ends, Moves, own_graph}
use Rattle.tree_costs.specs.Laws.{NumberedIsExact}
use Rattle.tree_costs.specs.Leasts.{place_of}
use Rattle.tree_costs.specs.Numbered.{IsDead, IsStuck, StandsFor, AreCarried, Numbers, graph_of, numbers_of, cost_by, state_cost_by}
use Rattle.tree_costs.specs.Families.{AreExact}
use Rattle.tree_costs.proofs.Numbered.{tree-to, path-to, solved}
use Rattle.tree_costs.proofs.Own.{exact}
use Rattle.tree_costs.proofs.Places.{has_place, has_none, stands_at, is_at}
use Rattle.tree_costs.proofs.Steps.{follows_in, steps_from}

-- a family with no member has no least cost
no_least : (L : Cost → Type 0) (c : Cost) → ((d : Cost) → L d → ⊥) → IsLeast L c → c ≡ Inf
no_least L c n h = elim h.1 [ inl q ↦ q | inr l ↦ absurd (n c l) ]

-- the name of the element, and no name past the end
abbrev name_in : Option Element → Chars
name_in None = []
name_in (Some e) = e.0

module _ (set : Declarations) (cap : ℕ) (kept : IsKept set) where
  abbrev label : ℕ → Chars
  label x = name_in (slice_get set.elements x)

  abbrev N : Graph ℕ ℕ
  N = graph_of (numbers_of set cap)

  abbrev G : Graph Chars ℕ
  G = own_graph set cap

  -- nothing is declared under no name
  unnamed : (a : Content) → content_in set [] ≡ Some a → ⊥
  unnamed a h = true≢false (sym (element_is set [] a kept h).named)

  -- a declared name has a document of the graph only where it is declared
  pub undeclared_is_dead : (v : Chars) → content_in set v ≡ None → IsDead G v
  undeclared_is_dead v h bare g = let at = g.1 in cc
  undeclared_is_dead v h (tree y inside later) g = let at = g.1.1 in cc

  undeclared_is_stuck : (v : Chars) (w : ℕ) → content_in set v ≡ None → IsStuck G v w
  undeclared_is_stuck v w h [] g = let at = g.1 in cc
  undeclared_is_stuck v w h (y ∷ ys) g = let at = g.1.1 in cc

  abbrev accepts_in : Option Element → ℕ → Bool
  accepts_in o s = option_map_or (λ e. does_accept e.1 s) o false

  ends_to : (o : Option Element) (s : ℕ) → ((e : Element) → o ≡ Some e → content_in set e.0 ≡ Some e.1) → IsTrue (accepts_in o s) → Ends set (name_in o) s
  ends_to None s d h = absurd (true≢false (sym h))
  ends_to (Some e) s d h = (e.1, d e refl, (accepts_by_test e.1 s).0 h)

  ends_from : (o : Option Element) (s : ℕ) → ((e : Element) → o ≡ Some e → content_in set e.0 ≡ Some e.1) → Ends set (name_in o) s → IsTrue (accepts_in o s)
  ends_from None s d h = absurd (unnamed h.0 h.1)
  ends_from (Some e) s d h =
      let own = d e refl in
      let there : Some e.1 ≡ Some h.0 = sym own ∙ h.1 in
      let same : e.1 ≡ h.0 = cc in
      (accepts_by_test e.1 s).1 (subst (λ (a : Content). Accepts a s) (sym same) h.2)

  declared : (x : ℕ) (e : Element) → slice_get set.elements x ≡ Some e → content_in set e.0 ≡ Some e.1
  declared x e h = (is_at set kept x e h).0

  -- ---- steps

  abbrev numbered : Chars × ℕ → Option ℕ × ℕ
  numbered t = (place_of set t.0, t.1)

  -- the name of a place
  named : (v : Chars) (y : ℕ) → place_of set v ≡ Some y → label y ≡ v
  named v y h = let t = stands_at set v y h in ap name_in t.2

  step_to : (o : Option Element) (s y t : ℕ) → ((e : Element) → o ≡ Some e → content_in set e.0 ≡ Some e.1)
      → Contains (map numbered (steps_at set o s)) (Some y, t) → Moves set (name_in o) s (label y) t
  step_to None s y t d h = elim (to_member (map numbered []) (Some y, t) h) [ ]
  step_to (Some e) s y t d h =
      let m = unmapped {B = Option ℕ × ℕ} numbered (steps_in set e.1 s) (Some y, t) (to_member (map numbered (steps_in set e.1 s)) (Some y, t) h) in
      let q : place_of set m.0.0 ≡ Some y = ap (λ z. z.0) (sym m.2) in
      let r : m.0.1 ≡ t = ap (λ z. z.1) (sym m.2) in
      let f = follows_in set e.1 s m.0.1 m.0.0 m.1 in
      (e.1, d e refl, subst (λ (v : Chars). FollowsOn e.1 s v t) (sym (named m.0.0 y q)) (subst (λ (k : ℕ). FollowsOn e.1 s m.0.0 k) r f))

  step_from : (o : Option Element) (s y t : ℕ) (v : Chars) (b : Content) → ((e : Element) → o ≡ Some e → content_in set e.0 ≡ Some e.1)
      → content_in set v ≡ Some b → place_of set v ≡ Some y → Moves set (name_in o) s v t → Contains (map numbered (steps_at set o s)) (Some y, t)
  step_from None s y t v b d h q f = absurd (unnamed f.0 f.1)
  step_from (Some e) s y t v b d h q f =
      let own = d e refl in
      let there : Some f.0 ≡ Some e.1 = sym f.1 ∙ own in
      let same : f.0 ≡ e.1 = cc in
      let m = steps_from set e.1 s t v b h (subst (λ (a : Content). FollowsOn a s v t) same f.2) in
      contains_of (map numbered (steps_in set e.1 s)) (Some y, t)
      (subst (λ (z : Option ℕ). Member {A = Option ℕ × ℕ} (z, t) (map numbered (steps_in set e.1 s))) q
      (mapped {B = Option ℕ × ℕ} numbered (steps_in set e.1 s) (v, t) m))

  Back : ℕ → ℕ → Chars → ℕ → Type 0
  Back x s v w = ((y : ℕ) × (t : ℕ) × N.step x s y t × (label y ≡ v) × (t ≡ w)) ⊎ IsDead G v

  back : (x s : ℕ) (v : Chars) (w : ℕ) → G.step (label x) s v w → Back x s v w
  unfolding Back
  back x s v w f = by (content_in set v) refl
    where
      by : (o : Option Content) → content_in set v ≡ o → Back x s v w
      by None q = inr (undeclared_is_dead v q)
      by (Some b) q =
          let t = has_place set v b q in
          inl (t.0, w, step_from (slice_get set.elements x) s t.0 w v b (declared x) q t.1 f, named v t.0 t.1, refl)

  elements : (v : Chars) → ((x : ℕ) × (label x ≡ v)) ⊎ (content_in set v ≡ None)
  elements v = by (content_in set v) refl
    where
      by : (o : Option Content) → content_in set v ≡ o → ((x : ℕ) × (label x ≡ v)) ⊎ (content_in set v ≡ None)
      by None q = inr q
      by (Some b) q = let t = has_place set v b q in inl (t.0, named v t.0 t.1)

  stands_for : StandsFor N G label (λ x s. s)
  unfolding Back
  stands_for = record {
    cap = refl;
    weight = λ x. refl;
    start = λ x. refl;
    ends = λ x s. (ends_to (slice_get set.elements x) s (declared x), ends_from (slice_get set.elements x) s (declared x));
    steps = λ x s y t h. step_to (slice_get set.elements x) s y t (declared x) h;
    back = back;
    elements = λ v. elim (elements v) [ inl t ↦ inl t | inr q ↦ inr (undeclared_is_dead v q) ];
    states = λ v w. elim (elements v) [ inl t ↦ inl (t.0, w, t.1, refl) | inr q ↦ inr (undeclared_is_stuck v w q) ];
  }

  -- ---- costs

  module _ (m : ℕ → Cost) (p : ℕ → ℕ → Cost) (X : IsSolved N m p) where
    nowhere : place_of set [] ≡ None
    nowhere = has_none set [] (by (content_in set []) refl)
      where
        by : (o : Option Content) → content_in set [] ≡ o → content_in set [] ≡ None
        by None q = q
        by (Some a) q = absurd (unnamed a q)

    no_tree : (x : ℕ) (d : Cost) → slice_get set.elements x ≡ None → OfTree N x d → ⊥
    no_tree x d q t = by t.0 t.1
      where
        by : (f : Forest ℕ) → Grows N x 0 f → ⊥
        by bare g = true≢false (sym (subst (λ o. IsTrue (accepts_in o 0)) q g))
        by (tree y inside later) g =
            elim (to_member (map numbered []) (Some y, g.0) (subst (λ o. Contains (map numbered (steps_at set o 0)) (Some y, g.0)) q g.1)) [ ]

    no_path : (x s : ℕ) (d : Cost) → slice_get set.elements x ≡ None → OfPath N m x s d → ⊥
    no_path x s d q t = by t.0 t.1
      where
        by : (ys : List ℕ) → Path N x s ys → ⊥
        by [] g = true≢false (sym (subst (λ o. IsTrue (accepts_in o s)) q g))
        by (y ∷ ys) g =
            elim (to_member (map numbered []) (Some y, g.0) (subst (λ o. Contains (map numbered (steps_at set o s)) (Some y, g.0)) q g.1)) [ ]

    element_cost : (x : ℕ) → cost_by set m (label x) ≡ m x
    element_cost x = by (slice_get set.elements x) refl
      where
        by : (o : Option Element) → slice_get set.elements x ≡ o → cost_by set m (name_in o) ≡ m x
        by None q = ap (λ o. option_map_or m o Inf) nowhere ∙ sym (no_least (OfTree N x) (m x) (λ d t. no_tree x d q t) (X.trees x))
        by (Some e) q = ap (λ o. option_map_or m o Inf) (is_at set kept x e q).1

    state_cost : (x s : ℕ) → state_cost_by set p (label x) s ≡ p x s
    state_cost x s = by (slice_get set.elements x) refl
      where
        by : (o : Option Element) → slice_get set.elements x ≡ o → state_cost_by set p (name_in o) s ≡ p x s
        by None q = ap (λ o. option_map_or (λ y. p y s) o Inf) nowhere ∙ sym (no_least (OfPath N m x s) (p x s) (λ d t. no_path x s d q t) (X.paths x s))
        by (Some e) q = ap (λ o. option_map_or (λ y. p y s) o Inf) (is_at set kept x e q).1

    dead_cost : (v : Chars) → IsDead G v → cost_by set m v ≡ Inf
    dead_cost v n = by (place_of set v) refl
      where
        by : (o : Option ℕ) → place_of set v ≡ o → option_map_or m o Inf ≡ Inf
        by None q = refl
        by (Some x) q = no_least (OfTree N x) (m x)
            (λ d t. let u = tree-to N G label (λ x s. s) stands_for x d t in n u.0 (subst (λ (w : Chars). Grows G w 0 u.0) (named v x q) u.1)) (X.trees x)

    stuck_cost : (v : Chars) (w : ℕ) → IsStuck G v w → state_cost_by set p v w ≡ Inf
    stuck_cost v w n = by (place_of set v) refl
      where
        by : (o : Option ℕ) → place_of set v ≡ o → option_map_or (λ y. p y w) o Inf ≡ Inf
        by None q = refl
        by (Some x) q = no_least (OfPath N m x w) (p x w)
            (λ d t. n (map label t.0) (subst (λ (z : Chars). Path G z w (map label t.0)) (named v x q) (path-to N G label (λ x s. s) stands_for t.0 x w t.1))) (X.paths x w)

    pub carried : AreCarried G label (λ x s. s) m p (cost_by set m) (state_cost_by set p)
    carried = record { elements = element_cost; dead = dead_cost; states = state_cost; stuck = stuck_cost }

    pub exact_by : AreExact set cap (cost_by set m) (state_cost_by set p)
    exact_by = exact set cap kept (cost_by set m) (state_cost_by set p)
        (solved N G label (λ x s. s) stands_for m p (cost_by set m) (state_cost_by set p) carried X)

pub numbered_is_exact : NumberedIsExact
numbered_is_exact set cap m p kept X = exact_by set cap kept m p X
