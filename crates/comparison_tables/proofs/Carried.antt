-- The costs of a comparison's plan are those of its graph.
use Rattle.std.proofs.Common.{◌≡◌, ◌≤◌, ◌<◌, ◌+◌, ◌-◌, ℕ, zero, suc, ◌⊎◌, inl, inr, List, [], ◌∷◌, length, false, cond, Option, Some, None, slice_get, Contains, refl, sym, ap, ◌∙◌, subst, arith, true≢false}
use Rattle.std.specs.Prelude.{option_and_then, option_map}
use Rattle.std.proofs.lemmas.Bool.{ltb-true, ltb-false}
use Rattle.attribute_types.proofs.TextTests.{on_test}
use Rattle.position_automata.specs.Automata.{states}
use Rattle.position_automata.proofs.Meaning.{to_member}
use Rattle.position_automata.proofs.Words.{Member}
use Rattle.decl_set.specs.Asked.{IsKept}
use Rattle.decl_set.specs.Declarations.{Declarations, Element}
use Rattle.tree_costs.specs.Graphs.{Graph, bare, tree}
use Rattle.tree_costs.specs.Leasts.{place_of}
use Rattle.tree_costs.specs.Numbered.{IsDead, IsStuck, graph_of}
use Rattle.tree_costs.proofs.Places.{has_none}
use Rattle.least_trees.specs.Plans.{Step}
use Rattle.exact_tables.specs.Comparing.{Elem, Plain, Copy, State, comparison}
use Rattle.exact_tables.specs.Comparing as to
use Rattle.comparison_tables.specs.declared.sides.Side.{Side}
use Rattle.comparison_tables.specs.Laws.{NumbersStand, CostsAreCarried}
use Rattle.comparison_tables.specs.Sides.{AreSides, Known, known}
use Rattle.comparison_tables.specs.Copies.{kind_in, kind_accepts, kind_steps}
use Rattle.comparison_tables.specs.Plans.{own_accepts, own_steps, copy_accepts_at, steps_of_copy, is_own, known_of, numbers_of}
use Rattle.comparison_tables.specs.Standing.{name_in, label, state, copy_state, meaning, number_in, number, copy_number, state_number}
use Rattle.comparison_tables.proofs.Carrying.{carried}
use Rattle.comparison_tables.proofs.Kinded.{numbered}
use Rattle.comparison_tables.proofs.Knowing.{Stands, is_known, none_known, either_stands}
use Rattle.comparison_tables.proofs.Numbering.{named, named_states, state_numbers, beyond_none}
use Rattle.comparison_tables.proofs.Standing.{unnamed, stands_for}

module _ (first second : Declarations) (sides : List Side) (cap : ℕ) (kf : IsKept first) (ks : IsKept second) (S : AreSides first second sides) where
  abbrev n : ℕ
  n = length first.elements

  abbrev N : Graph ℕ ℕ
  N = graph_of (numbers_of first second sides cap)

  abbrev G : Graph Elem State
  G = comparison first second cap

  nowhere : place_of first [] ≡ None
  nowhere = has_none first [] (unnamed first second sides cap kf ks S)

  -- ---- what neither accepts nor steps

  dead : (x : ℕ) → (N.accepts x 0 → ⊥) → ((y t : ℕ) → N.step x 0 y t → ⊥) → IsDead N x
  dead x a s bare g = a g
  dead x a s (tree y inside later) g = s y g.0 g.1

  stuck : (x t : ℕ) → (N.accepts x t → ⊥) → ((y u : ℕ) → N.step x t y u → ⊥) → IsStuck N x t
  stuck x t a s [] g = a g
  stuck x t a s (y ∷ ys) g = s y g.0 g.1

  copy_ends : (x t : ℕ) (o : Option Known) → is_own first second sides x ≡ false → known_of first second sides x ≡ o → copy_accepts_at o t ≡ false → N.accepts x t → ⊥
  copy_ends x t o q k a h =
      true≢false (sym h ∙ ap (λ b. cond b (own_accepts (slice_get first.elements x) t) (copy_accepts_at (known_of first second sides x) t)) q ∙ ap (λ o. copy_accepts_at o t) k ∙ a)

  copy_steps : (x t : ℕ) (o : Option Known) → is_own first second sides x ≡ false → known_of first second sides x ≡ o → steps_of_copy first o t ≡ [] → (y u : ℕ) → N.step x t y u → ⊥
  copy_steps x t o q k a y u h =
      let e = ap (λ b. cond b (own_steps first (slice_get first.elements x) t) (steps_of_copy first (known_of first second sides x) t)) q ∙ ap (λ o. steps_of_copy first o t) k ∙ a in
      let m : Member {A = Step} (Some y, u) [] = to_member {A = Step} [] (Some y, u) (subst (λ z. Contains z (Some y, u)) e h) in
      elim m [ ]

  there : (x : ℕ) → x < n → slice_get first.elements x ≡ None → ⊥
  there x l q = by first.elements x l q
    where
      by : (es : List Element) (x : ℕ) → x < length es → slice_get es x ≡ None → ⊥
      by [] x l q = omega arith
      by (e ∷ es) zero l q = cc
      by (e ∷ es) (suc x) l q = by es x (omega arith) q

  -- ---- elements

  abbrev Num : Elem → Option ℕ
  Num v = number first second sides v

  abbrev StateNum : Elem → State → Option (ℕ × ℕ)
  StateNum v w = state_number first second sides v w

  abbrev CountsAs : Elem → ℕ → Type 0
  CountsAs v x = (Num v ≡ Some x) ⊎ ((Num v ≡ None) × IsDead N x)

  own_counts : (x : ℕ) → x < n → CountsAs (Plain (name_in (slice_get first.elements x))) x
  own_counts x l = elim (either_stands first second sides kf S x) [
    | inl s ↦ inl (ap (λ o. place_of first (name_in o)) s.there ∙ s.place)
    | inr q ↦ absurd (there x l q)
  ]

  copy_counts : (x : ℕ) → n ≤ x → is_own first second sides x ≡ false → CountsAs (Copy (name_in (slice_get first.elements (x - n)))) x
  copy_counts x l q = elim (either_stands first second sides kf S (x - n)) [
    | inl s ↦
        let e : n + (x - n) ≡ x = omega arith in
        inl (ap (λ o. option_map (λ y. n + y) (place_of first (name_in o))) s.there ∙ ap (option_map (λ y. n + y)) s.place ∙ ap (λ z. Some z) e)
    | inr z ↦
        let k = none_known first second sides kf S (x - n) z in
        inr (
          ap (λ o. option_map (λ y. n + y) (place_of first (name_in o))) z ∙ ap (option_map (λ y. n + y)) nowhere,
          dead x (copy_ends x 0 None q k refl) (copy_steps x 0 None q k refl),
        )
  ]

  counts : (x : ℕ) → CountsAs (label first second sides x) x
  counts x =
      on_test (λ b. CountsAs (cond b (Plain (name_in (slice_get first.elements x))) (Copy (name_in (slice_get first.elements (x - n))))) x) (is_own first second sides x)
      (λ q. own_counts x (ltb-true x n q)) (λ q. copy_counts x (ltb-false x n q) q)

  -- ---- states

  abbrev CountsStateAs : Elem → State → ℕ → ℕ → Type 0
  CountsStateAs v w x t = (StateNum v w ≡ Some (x, t)) ⊎ ((StateNum v w ≡ None) × IsStuck N x t)

  own_counts_states : (x t : ℕ) → x < n → CountsStateAs (Plain (name_in (slice_get first.elements x))) (to.Go t) x t
  own_counts_states x t l = elim (either_stands first second sides kf S x) [
    | inl s ↦ inl (ap (λ o. option_map {U = ℕ × ℕ} (λ y. (y, t)) (place_of first (name_in o))) s.there ∙ ap (option_map {U = ℕ × ℕ} (λ y. (y, t))) s.place)
    | inr q ↦ absurd (there x l q)
  ]

  -- the number of a state of the copy at a place
  numbered_by : (y : ℕ) (s : Stands first second sides y) (w : State) (o : Option ℕ) → number_in (known second s.element s.side) w ≡ o
      → StateNum (Copy s.element.0) w ≡ option_map {U = ℕ × ℕ} (λ t. (n + y, t)) o
  numbered_by y s w o q =
      ap (option_and_then (λ z. copy_number first second sides z w)) s.place
      ∙ ap (λ z. option_map {U = ℕ × ℕ} (λ t. (n + y, t)) (option_and_then (λ k. number_in k w) z)) (is_known first second sides kf S y s)
      ∙ ap (option_map {U = ℕ × ℕ} (λ t. (n + y, t))) q

  copy_counts_states : (x t : ℕ) → n ≤ x → is_own first second sides x ≡ false
      → CountsStateAs (Copy (name_in (slice_get first.elements (x - n)))) (copy_state (known_of first second sides x) t) x t
  copy_counts_states x t l q = elim (either_stands first second sides kf S (x - n)) [
    | inl s ↦
        let k = known second s.element s.side in
        let is = is_known first second sides kf S (x - n) s in
        let e : n + (x - n) ≡ x = omega arith in
        subst (λ (o : Option Element). CountsStateAs (Copy (name_in o)) (copy_state (known_of first second sides x) t) x t) (sym s.there)
        (subst (λ (o : Option Known). CountsStateAs (Copy s.element.0) (copy_state o t) x t) (sym is)
        (elim (state_numbers first k t (kind_in k t) (s.knows).pairs (numbered (states k.content) k.pairs t)) [
          | inl g ↦ inl (numbered_by (x - n) s (meaning (states k.content) (kind_in k t)) (Some t) g ∙ ap (λ z. Some (z, t)) e)
          | inr b ↦ inr (
            numbered_by (x - n) s (meaning (states k.content) (kind_in k t)) None (ap (λ z. number_in k (meaning (states k.content) z)) b ∙ beyond_none k),
            stuck x t (copy_ends x t (Some k) q is (ap (kind_accepts k) b)) (copy_steps x t (Some k) q is (ap (kind_steps first k n) b)),
          )
        ]))
    | inr z ↦
        let k = none_known first second sides kf S (x - n) z in
        subst (λ (o : Option Element). CountsStateAs (Copy (name_in o)) (copy_state (known_of first second sides x) t) x t) (sym z)
        (subst (λ (o : Option Known). CountsStateAs (Copy []) (copy_state o t) x t) (sym k)
        (inr (
          ap (option_and_then (λ y. copy_number first second sides y to.Start)) nowhere,
          stuck x t (copy_ends x t None q k refl) (copy_steps x t None q k refl),
        )))
  ]

  counts_states : (x t : ℕ) → CountsStateAs (label first second sides x) (state first second sides x t) x t
  counts_states x t =
      on_test (λ b. CountsStateAs (cond b (Plain (name_in (slice_get first.elements x))) (Copy (name_in (slice_get first.elements (x - n)))))
      (cond b (to.Go t) (copy_state (known_of first second sides x) t)) x t) (is_own first second sides x)
      (λ q. own_counts_states x t (ltb-true x n q)) (λ q. copy_counts_states x t (ltb-false x n q) q)

pub numbers_stand : NumbersStand
numbers_stand first second sides cap kf ks S = stands_for first second sides cap kf ks S

pub costs_are_carried : CostsAreCarried
costs_are_carried first second sides cap m p kf ks S X =
    carried (graph_of (numbers_of first second sides cap)) (comparison first second cap) (label first second sides) (state first second sides)
    (stands_for first second sides cap kf ks S) (number first second sides) (state_number first second sides) m p X
    (record {
      counts = counts first second sides cap kf ks S;
      counts_states = counts_states first second sides cap kf ks S;
      named = named first second sides kf S;
      named_states = named_states first second sides kf S;
    })
