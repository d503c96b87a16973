-- The steps of a copy are those of what it stands for.
use Rattle.std.proofs.Common.{◌≡◌, ◌<◌, ◌+◌, ◌-◌, ℕ, inl, inr, List, length, Bool, true, false, cond, Option, Some, None, slice_get, refl, sym, ap, ◌∙◌, subst, arith}
use Rattle.std.specs.Option.{option_map}
use Rattle.std.proofs.lemmas.Bool.{lt-ltb, le-ltb}
use Rattle.std.proofs.lemmas.Option.{slice_get_within}
use Rattle.content_models.specs.declared.content.Content.{Content}
use Rattle.content_models.specs.Model.{Chars}
use Rattle.position_automata.specs.Automata.{FollowsOn, states}
use Rattle.position_automata.specs.Stepping.{step_on}
use Rattle.position_automata.proofs.Stepping.{are_within, on_to, on_none}
use Rattle.position_automata.proofs.Words.{Member, unmapped}
use Rattle.decl_set.specs.Children.{child_step}
use Rattle.decl_set.specs.Declarations.{Declarations}
use Rattle.decl_set.specs.Steps.{steps_in}
use Rattle.tree_costs.specs.Leasts.{place_of}
use Rattle.tree_costs.proofs.Places.{stands_at}
use Rattle.tree_costs.proofs.Steps.{follows_in}
use Rattle.least_trees.specs.Plans.{Step}
use Rattle.exact_tables.specs.Families.{IsListed}
use Rattle.exact_tables.specs.Comparing.{Elem, Plain, Copy, State, Moves, MovesBoth, MovesAlone, IsOdd, step}
use Rattle.exact_tables.specs.Comparing as to
use Rattle.exact_tables.proofs.Closing.{start_listed}
use Rattle.comparison_tables.specs.declared.kinds.Kind.{Kind}
use Rattle.comparison_tables.specs.declared.kinds.Kind.TheVariants as kind
use Rattle.comparison_tables.specs.declared.sides.Side.{Side}
use Rattle.comparison_tables.specs.Kinds.{go_number, wrong_number, pair_number}
use Rattle.comparison_tables.specs.Sides.{Known, pair_place}
use Rattle.comparison_tables.specs.Copies.{kind_in, to_go, to_copy, to_wrong, to_listed, to_either, to_other, to_odd, pair_step, wrong_steps, start_steps, kind_steps}
use Rattle.comparison_tables.specs.Standing.{name_in, label, meaning}
use Rattle.comparison_tables.proofs.Halves.{place_stands}
use Rattle.comparison_tables.proofs.Kinded.{IsNumber, go_kind, wrong_kind, pair_kind_is}
use Rattle.comparison_tables.proofs.Knowing.{Knows, pair_listed}
use Rattle.comparison_tables.proofs.Lists.{flat_member}

module _ (first second : Declarations) (sides : List Side) where
  abbrev n : ℕ
  n = length first.elements

  -- the labels of a place and of its copy
  pub label_own : (v : Chars) (y : ℕ) → place_of first v ≡ Some y → label first second sides y ≡ Plain v
  label_own v y h =
      let t = stands_at first v y h in
      let l = slice_get_within first.elements y (v, t.0) t.2 in
      ap (λ b. cond b (Plain (name_in (slice_get first.elements y))) (Copy (name_in (slice_get first.elements (y - n))))) (lt-ltb y n l)
      ∙ ap (λ o. Plain (name_in o)) t.2

  pub label_copy : (v : Chars) (y : ℕ) → place_of first v ≡ Some y → label first second sides (n + y) ≡ Copy v
  label_copy v y h =
      let t = stands_at first v y h in
      let s : n + y - n ≡ y = omega arith in
      ap (λ b. cond b (Plain (name_in (slice_get first.elements (n + y)))) (Copy (name_in (slice_get first.elements (n + y - n))))) (le-ltb (n + y) n (omega arith))
      ∙ ap (λ z. Copy (name_in (slice_get first.elements z))) s ∙ ap (λ o. Copy (name_in o)) t.2

  module _ (e : Chars) (k : Known) (K : Knows first second e k) where
    abbrev a : Content
    a = k.content

    -- what the state of a number stands for
    abbrev pub at_state : ℕ → State
    at_state t = meaning (states a) (kind_in k t)

    pub go_state : (i : ℕ) → i < states a → at_state (go_number i) ≡ to.Go i
    go_state i l = ap (meaning (states a)) (go_kind (states a) k.pairs i l)

    pub wrong_state : (i : ℕ) → i < states a → at_state (wrong_number (states a) i) ≡ to.Fs i
    wrong_state i l = ap (meaning (states a)) (wrong_kind (states a) k.pairs i l)

    pub pair_state : (at i j : ℕ) → slice_get k.pairs at ≡ Some (i, j) → at_state (pair_number (states a) at) ≡ to.Gs i j
    pair_state at i j q = ap (meaning (states a)) (pair_kind_is (states a) k.pairs at i j q)

    -- a step to what a label and a number stand for
    carry : (u : State) (y t : ℕ) (v : Elem) (w : State) → label first second sides y ≡ v → at_state t ≡ w → step first second (Copy e) u v w
        → step first second (Copy e) u (label first second sides y) (at_state t)
    carry u y t v w p q h =
        subst (λ z. step first second (Copy e) u z (at_state t)) (sym p) (subst (λ z. step first second (Copy e) u v z) (sym q) h)

    -- ---- forth

    by_go : (u : State) (s : Chars × ℕ) (y t : ℕ) → s.1 < states a → (Some y, t) ≡ to_go (child_step first s) → step first second (Copy e) u (Plain s.0) (to.Go s.1)
        → step first second (Copy e) u (label first second sides y) (at_state t)
    by_go u s y t l q h =
        let p : place_of first s.0 ≡ Some y = sym (ap (λ z. z.0) q) in
        carry u y t (Plain s.0) (to.Go s.1) (label_own s.0 y p) (ap at_state (ap (λ z. z.1) q) ∙ go_state s.1 l) h

    by_copy : (u : State) (s : Chars × ℕ) (y t : ℕ) → s.1 < states a → (Some y, t) ≡ to_copy n (child_step first s) → step first second (Copy e) u (Copy s.0) (to.Go s.1)
        → step first second (Copy e) u (label first second sides y) (at_state t)
    by_copy u s y t l q h = by (place_of first s.0) refl (ap (λ z. z.0) q)
      where
        by : (o : Option ℕ) → place_of first s.0 ≡ o → Some y ≡ option_map (λ x. n + x) o → step first second (Copy e) u (label first second sides y) (at_state t)
        by None p r = absurd (let z : Some y ≡ None = r in cc)
        by (Some x) p r =
            let same : y ≡ n + x = (let z : Some y ≡ Some (n + x) = r in cc) in
            carry u y t (Copy s.0) (to.Go s.1) (ap (label first second sides) same ∙ label_copy s.0 x p) (ap at_state (ap (λ z. z.1) q) ∙ go_state s.1 l) h

    by_wrong : (u : State) (s : Chars × ℕ) (y t : ℕ) → s.1 < states a → (Some y, t) ≡ to_wrong (states a) (child_step first s)
        → step first second (Copy e) u (Plain s.0) (to.Fs s.1) → step first second (Copy e) u (label first second sides y) (at_state t)
    by_wrong u s y t l q h =
        let p : place_of first s.0 ≡ Some y = sym (ap (λ z. z.0) q) in
        carry u y t (Plain s.0) (to.Fs s.1) (label_own s.0 y p) (ap at_state (ap (λ z. z.1) q) ∙ wrong_state s.1 l) h

    moves : (i : ℕ) (s : Chars × ℕ) → Member s (steps_in first a i) → Moves first second e i s.0 s.1
    moves i s m = (a, K.content, follows_in first a i s.1 s.0 m)

    below : (i : ℕ) (s : Chars × ℕ) → Member s (steps_in first a i) → s.1 < states a
    below i s m = (are_within a).after i s.1 s.0 (follows_in first a i s.1 s.0 m)

    -- where a step of a pair leads
    by_listed : (u : State) (i j l : ℕ) (s : Chars × ℕ) (y t : ℕ) (b : Content) (o : Option ℕ) → k.other ≡ Some b → IsListed first a b i j → Member s (steps_in first a i)
        → FollowsOn b j s.0 l → pair_place k.pairs s.1 l ≡ o → (Some y, t) ≡ to_listed (states a) (child_step first s) o
        → (MovesBoth first second e i j s.0 s.1 l → step first second (Copy e) u (Plain s.0) (to.Gs s.1 l))
        → step first second (Copy e) u (label first second sides y) (at_state t)
    by_listed u i j l s y t b None o z m f p q both = absurd (let x : Some y ≡ None = ap (λ z. z.0) q in cc)
    by_listed u i j l s y t b (Some at) o z m f p q both =
        let c : place_of first s.0 ≡ Some y = sym (ap (λ z. z.0) q) in
        let there = place_stands k.pairs s.1 l at p in
        carry u y t (Plain s.0) (to.Gs s.1 l) (label_own s.0 y c) (ap at_state (ap (λ z. z.1) q) ∙ pair_state at s.1 l there)
        (both (a, b, K.content, K.other ∙ o, follows_in first a i s.1 s.0 m, f, z, pair_listed first a k.other k.pairs at s.1 l K.pairs there b o))

    by_either : (u : State) (i j : ℕ) (s : Chars × ℕ) (y t : ℕ) (b : Content) (o : Option ℕ) → k.other ≡ Some b → IsListed first a b i j → Member s (steps_in first a i)
        → step_on b j s.0 ≡ o → (Some y, t) ≡ to_either k (child_step first s) o
        → ((l : ℕ) → MovesBoth first second e i j s.0 s.1 l → step first second (Copy e) u (Plain s.0) (to.Gs s.1 l))
        → (MovesAlone first second e i j s.0 s.1 → step first second (Copy e) u (Plain s.0) (to.Go s.1))
        → step first second (Copy e) u (label first second sides y) (at_state t)
    by_either u i j s y t b None o z m p q both alone =
        by_go u s y t (below i s m) q (alone (a, b, K.content, K.other ∙ o, follows_in first a i s.1 s.0 m, (λ l f. on_none b j l s.0 p f), z))
    by_either u i j s y t b (Some l) o z m p q both alone =
        by_listed u i j l s y t b (pair_place k.pairs s.1 l) o z m (on_to b j l s.0 p) refl q (both l)

    by_other : (u : State) (i j : ℕ) (s : Chars × ℕ) (y t : ℕ) (o : Option Content) → k.other ≡ o → ((b : Content) → k.other ≡ Some b → IsListed first a b i j)
        → Member s (steps_in first a i) → (Some y, t) ≡ to_other k o j s.0 (child_step first s)
        → ((l : ℕ) → MovesBoth first second e i j s.0 s.1 l → step first second (Copy e) u (Plain s.0) (to.Gs s.1 l))
        → (MovesAlone first second e i j s.0 s.1 → step first second (Copy e) u (Plain s.0) (to.Go s.1))
        → step first second (Copy e) u (label first second sides y) (at_state t)
    by_other u i j s y t None o z m q both alone = absurd (let x : Some y ≡ None = ap (λ z. z.0) q in cc)
    by_other u i j s y t (Some b) o z m q both alone = by_either u i j s y t b (step_on b j s.0) o (z b o) m refl q both alone

    by_odd : (s : Chars × ℕ) (y t : ℕ) (odd : Bool) → k.odd ≡ odd → Member s (steps_in first a 0) → (Some y, t) ≡ to_odd odd (child_step first s)
        → step first second (Copy e) to.Start (label first second sides y) (at_state t)
    by_odd s y t true o m q = by_go to.Start s y t (below 0 s m) q (inr (sym K.odd ∙ o, moves 0 s m))
    by_odd s y t false o m q = absurd (let x : Some y ≡ None = ap (λ z. z.0) q in cc)

    wrong_forth : (i y t : ℕ) (s : Chars × ℕ) → Member s (steps_in first a i) → Member {A = Step} (Some y, t) (wrong_steps first k n s)
        → step first second (Copy e) (to.Fs i) (label first second sides y) (at_state t)
    wrong_forth i y t s m (inl q) = by_copy (to.Fs i) s y t (below i s m) q (moves i s m)
    wrong_forth i y t s m (inr (inl q)) = by_wrong (to.Fs i) s y t (below i s m) q (moves i s m)
    wrong_forth i y t s m (inr (inr none)) = elim none [ ]

    start_forth : (y t : ℕ) (s : Chars × ℕ) → Member s (steps_in first a 0) → Member {A = Step} (Some y, t) (start_steps first k n s)
        → step first second (Copy e) to.Start (label first second sides y) (at_state t)
    start_forth y t s m (inl q) = by_copy to.Start s y t (below 0 s m) q (moves 0 s m)
    start_forth y t s m (inr (inl q)) = by_wrong to.Start s y t (below 0 s m) q (moves 0 s m)
    start_forth y t s m (inr (inr (inl q))) =
        by_other to.Start 0 0 s y t k.other refl (λ b o. start_listed first a b) m q (λ l h. h) (λ h. inl h)
    start_forth y t s m (inr (inr (inr (inl q)))) = by_odd s y t k.odd refl m q
    start_forth y t s m (inr (inr (inr (inr none)))) = elim none [ ]

    pub forth : (u : ℕ) (kd : Kind) (y t : ℕ) → IsNumber (states a) k.pairs u kd → Member {A = Step} (Some y, t) (kind_steps first k n kd)
        → step first second (Copy e) (meaning (states a) kd) (label first second sides y) (at_state t)
    forth u kind.Start y t h m =
        let s = flat_member (start_steps first k n) (steps_in first a 0) (Some y, t) m in
        start_forth y t s.0 s.1 s.2
    forth u (kind.Go i) y t h m =
        let s = unmapped {B = Step} (λ s. to_go (child_step first s)) (steps_in first a i) (Some y, t) m in
        by_go (to.Go i) s.0 y t (below i s.0 s.1) s.2 (moves i s.0 s.1)
    forth u (kind.Wrong i) y t h m =
        let s = flat_member (wrong_steps first k n) (steps_in first a i) (Some y, t) m in
        wrong_forth i y t s.0 s.1 s.2
    forth u (kind.Pair i j) y t h m =
        let s = unmapped {B = Step} (pair_step first k j) (steps_in first a i) (Some y, t) m in
        by_other (to.Gs i j) i j s.0 y t k.other refl (pair_listed first a k.other k.pairs h.0 i j K.pairs h.1) s.1 s.2 (λ l z. z) (λ z. z)
    forth u kind.Beyond y t h m = elim m [ ]
