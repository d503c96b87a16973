-- The numbers of what the elements and states of a comparison's plan stand for.
use Rattle.std.proofs.Common.{◌≡◌, ◌≤◌, ◌<◌, ◌+◌, ◌-◌, ℕ, ◌⊎◌, inl, inr, List, length, Bool, cond, Option, Some, None, refl, sym, ap, ◌∙◌, subst, arith}
use Rattle.std.specs.Prelude.{nat_lt, option_and_then, option_map}
use Rattle.std.proofs.lemmas.Bool.{lt-ltb, le-ltb, ltb-true, ltb-false}
use Rattle.std.proofs.lemmas.Option.{slice_get_within}
use Rattle.attribute_types.proofs.TextTests.{on_test}
use Rattle.content_models.specs.declared.content.Content.{Content}
use Rattle.content_models.specs.Model.{Chars}
use Rattle.position_automata.specs.Automata.{states}
use Rattle.position_automata.proofs.Stepping.{are_within, accept_within}
use Rattle.decl_set.specs.Asked.{IsKept}
use Rattle.decl_set.specs.Declarations.{Declarations, Element, content_in}
use Rattle.tree_costs.specs.Leasts.{place_of}
use Rattle.tree_costs.specs.Numbered.{IsDead, IsStuck}
use Rattle.tree_costs.proofs.Places.{has_place, stands_at}
use Rattle.exact_tables.specs.Families.{IsListed}
use Rattle.exact_tables.specs.Comparing.{Elem, Plain, Copy, name, State, accepts, step, comparison}
use Rattle.exact_tables.specs.Comparing as to
use Rattle.comparison_tables.specs.declared.kinds.Kind.{Kind}
use Rattle.comparison_tables.specs.declared.kinds.Kind.TheVariants as kind
use Rattle.comparison_tables.specs.declared.sides.Side.{Side}
use Rattle.comparison_tables.specs.Kinds.{go_number, wrong_number, pair_number}
use Rattle.comparison_tables.specs.Sides.{ArePairsOf, AreSides, Known, known, known_at, pair_place}
use Rattle.comparison_tables.specs.Copies.{kind_in}
use Rattle.comparison_tables.specs.Plans.{known_of}
use Rattle.comparison_tables.specs.Standing.{label, state, copy_state, meaning, among_states, number_in, number, copy_number, state_number}
use Rattle.comparison_tables.proofs.Halves.{place_stands, some_found, is_own as is_own_pair}
use Rattle.comparison_tables.proofs.Kinded.{IsNumber, go_kind, wrong_kind, pair_kind_is}
use Rattle.comparison_tables.proofs.Knowing.{Knows, Stands, stands, is_known, pairs_ascend, listed_place}
use Rattle.comparison_tables.proofs.Moving.{label_own, label_copy}
use Rattle.comparison_tables.proofs.Undeclared.{is_dead, is_stuck, none_leads, own_only}

-- ---- the numbers of a copy's states

among_is : (n i t u : ℕ) → among_states n i t ≡ Some u → (i < n) × (t ≡ u)
among_is n i t u h =
    let P : Bool → Type 0 = λ b. nat_lt i n ≡ b → cond b (Some t) None ≡ Some u → (i < n) × (t ≡ u) in
    on_test P (nat_lt i n) (λ q r h. (ltb-true i n q, let e : t ≡ u = cc in e)) (λ q r h. absurd (let z : None ≡ Some u = h in cc)) refl h

among_none : (n i t : ℕ) → among_states n i t ≡ None → n ≤ i
among_none n i t h =
    let P : Bool → Type 0 = λ b. nat_lt i n ≡ b → cond b (Some t) None ≡ None → n ≤ i in
    on_test P (nat_lt i n) (λ q r h. absurd (let z : Some t ≡ None = h in cc)) (λ q r h. ltb-false i n q) refl h

among_some : (n i t : ℕ) → i < n → among_states n i t ≡ Some t
among_some n i t l = ap (λ b. cond b (Some t) None) (lt-ltb i n l)

-- the state of a number stands for what has the number
numbers_state : (k : Known) (w : State) (t : ℕ) → number_in k w ≡ Some t → meaning (states k.content) (kind_in k t) ≡ w
numbers_state k to.Start t h = let e : 0 ≡ t = cc in ap (λ z. meaning (states k.content) (kind_in k z)) (sym e)
numbers_state k (to.Go i) t h =
    let p = among_is (states k.content) i (go_number i) t h in
    ap (λ z. meaning (states k.content) (kind_in k z)) (sym p.1) ∙ ap (meaning (states k.content)) (go_kind (states k.content) k.pairs i p.0)
numbers_state k (to.Fs i) t h =
    let p = among_is (states k.content) i (wrong_number (states k.content) i) t h in
    ap (λ z. meaning (states k.content) (kind_in k z)) (sym p.1) ∙ ap (meaning (states k.content)) (wrong_kind (states k.content) k.pairs i p.0)
numbers_state k (to.Gs i j) t h = by (pair_place k.pairs i j) refl h
  where
    by : (o : Option ℕ) → pair_place k.pairs i j ≡ o → option_map (pair_number (states k.content)) o ≡ Some t → meaning (states k.content) (kind_in k t) ≡ to.Gs i j
    by None q h = absurd (let z : None ≡ Some t = h in cc)
    by (Some at) q h =
        let e : pair_number (states k.content) at ≡ t = (let z : Some (pair_number (states k.content) at) ≡ Some t = h in cc) in
        ap (λ z. meaning (states k.content) (kind_in k z)) (sym e) ∙ ap (meaning (states k.content)) (pair_kind_is (states k.content) k.pairs at i j (place_stands k.pairs i j at q))

-- and has its number, or stands for nothing
pub state_numbers : (first : Declarations) (k : Known) (t : ℕ) (kd : Kind) → ArePairsOf first k.content k.other k.pairs → IsNumber (states k.content) k.pairs t kd
    → (number_in k (meaning (states k.content) kd) ≡ Some t) ⊎ (kd ≡ kind.Beyond)
state_numbers first k t kind.Start A h = inl (ap (λ z. Some z) (sym h))
state_numbers first k t (kind.Go i) A h = inl (among_some (states k.content) i (go_number i) h.0 ∙ ap (λ z. Some z) (sym h.1))
state_numbers first k t (kind.Wrong i) A h = inl (among_some (states k.content) i (wrong_number (states k.content) i) h.0 ∙ ap (λ z. Some z) (sym h.1))
state_numbers first k t (kind.Pair i j) A h = inl
    (ap (option_map (pair_number (states k.content))) (some_found k.pairs i j h.0 (i, j) (pairs_ascend first k.content k.other k.pairs A) h.1 (is_own_pair i j))
    ∙ ap (λ z. Some z) (sym h.2))
state_numbers first k t kind.Beyond A h = inr refl

pub beyond_none : (k : Known) → number_in k (meaning (states k.content) kind.Beyond) ≡ None
beyond_none k = ap (λ b. cond b (Some (wrong_number (states k.content) (states k.content))) None) (le-ltb (states k.content) (states k.content) (omega arith))

-- ---- what has no number

module _ (first second : Declarations) (cap : ℕ) (e : Chars) (k : Known) (K : Knows first second e k) where
  abbrev a : Content
  a = k.content

  same_first : (b : Content) → content_in first e ≡ Some b → b ≡ a
  same_first b h = let there : Some b ≡ Some a = sym h ∙ K.content in cc

  past_ends : (i : ℕ) → states a ≤ i → (accepts first second (Copy e) (to.Go i) → ⊥)
  past_ends i l h =
      let w = accept_within h.0 i h.2 in
      let q : states h.0 ≡ states a = ap states (same_first h.0 h.1) in
      omega (arith, w, q)

  past_moves : (i j : ℕ) (on : Chars) → states a ≤ i → to.Moves first second e i on j → ⊥
  past_moves i j on l h =
      let w = (are_within h.0).before i j on h.2 in
      let q : states h.0 ≡ states a = ap states (same_first h.0 h.1) in
      omega (arith, w, q)

  past_go : (i : ℕ) (y : Elem) (t : State) → states a ≤ i → step first second (Copy e) (to.Go i) y t → ⊥
  past_go i (Plain on) (to.Go j) l h = past_moves i j on l h
  past_go i y t l h = elim h [ ]

  past_wrong : (i : ℕ) (y : Elem) (t : State) → states a ≤ i → step first second (Copy e) (to.Fs i) y t → ⊥
  past_wrong i (Copy on) (to.Go j) l h = past_moves i j on l h
  past_wrong i (Plain on) (to.Fs j) l h = past_moves i j on l h
  past_wrong i y t l h = elim h [ ]

  -- a listed pair has a place
  has_pair : (i j : ℕ) (b c : Content) → content_in first e ≡ Some b → content_in second e ≡ Some c → IsListed first b c i j → pair_place k.pairs i j ≡ None → ⊥
  has_pair i j b c p q l none =
      let o : k.other ≡ Some c = sym K.other ∙ q in
      let t = listed_place first a c k.pairs i j (subst (λ (z : Option Content). ArePairsOf first a z k.pairs) o K.pairs)
      (subst (λ (z : Content). IsListed first z c i j) (same_first b p) l) in
      let z : None ≡ Some t.0 = sym none ∙ t.1 in
      cc

  no_pair_ends : (i j : ℕ) → pair_place k.pairs i j ≡ None → accepts first second (Copy e) (to.Gs i j) → ⊥
  no_pair_ends i j q h = has_pair i j h.0 h.1 h.2 h.3 h.6 q

  no_pair : (i j : ℕ) (y : Elem) (t : State) → pair_place k.pairs i j ≡ None → step first second (Copy e) (to.Gs i j) y t → ⊥
  no_pair i j (Plain on) (to.Gs r l) q h = has_pair i j h.0 h.1 h.2 h.3 h.6 q
  no_pair i j (Plain on) (to.Go r) q h = has_pair i j h.0 h.1 h.2 h.3 h.6 q
  no_pair i j y t q h = elim h [ ]

  pub numberless : (w : State) → number_in k w ≡ None → IsStuck (comparison first second cap) (Copy e) w
  numberless to.Start h = absurd (let z : Some 0 ≡ None = h in cc)
  numberless (to.Go i) h =
      let l = among_none (states a) i (go_number i) h in
      none_leads first second cap (Copy e) (to.Go i) (past_ends i l) (λ y t. past_go i y t l)
  numberless (to.Fs i) h =
      let l = among_none (states a) i (wrong_number (states a) i) h in
      none_leads first second cap (Copy e) (to.Fs i) (λ z. absurd z) (λ y t. past_wrong i y t l)
  numberless (to.Gs i j) h = by (pair_place k.pairs i j) refl h
    where
      by : (o : Option ℕ) → pair_place k.pairs i j ≡ o → option_map (pair_number (states a)) o ≡ None → IsStuck (comparison first second cap) (Copy e) (to.Gs i j)
      by None q h = none_leads first second cap (Copy e) (to.Gs i j) (no_pair_ends i j q) (λ y t. no_pair i j y t q)
      by (Some at) q h = absurd (let z : Some (pair_number (states a) at) ≡ None = h in cc)

-- ---- numbers of elements and states

module _ (first second : Declarations) (sides : List Side) (kf : IsKept first) (S : AreSides first second sides) where
  abbrev n : ℕ
  n = length first.elements

  pub place_within : (v : Chars) (y : ℕ) → place_of first v ≡ Some y → y < n
  place_within v y h = let t = stands_at first v y h in slice_get_within first.elements y (v, t.0) t.2

  -- what has a place stands there
  pub place_stands_for : (v : Chars) (y : ℕ) → place_of first v ≡ Some y → (s : Stands first second sides y) × (s.element.0 ≡ v)
  place_stands_for v y h =
      let t = stands_at first v y h in
      let s = stands first second sides kf S y (v, t.0) t.2 in
      let q : Some s.element ≡ Some (v, t.0) = sym s.there ∙ t.2 in
      let same : s.element ≡ (v, t.0) = cc in
      (s, ap (λ (z : Element). z.0) same)

  pub no_place : (v : Chars) → place_of first v ≡ None → content_in first v ≡ None
  no_place v h = by (content_in first v) refl
    where
      by : (o : Option Content) → content_in first v ≡ o → content_in first v ≡ None
      by None q = q
      by (Some b) q = absurd (let t = has_place first v b q in let z : None ≡ Some t.0 = sym h ∙ t.1 in cc)

  pub named : (v : Elem) (x : ℕ) → number first second sides v ≡ Some x → label first second sides x ≡ v
  named (Plain e) x h = label_own first second sides e x h
  named (Copy e) x h = by (place_of first e) refl h
    where
      by : (o : Option ℕ) → place_of first e ≡ o → option_map (λ y. n + y) o ≡ Some x → label first second sides x ≡ Copy e
      by None q h = absurd (let z : None ≡ Some x = h in cc)
      by (Some y) q h =
          let same : n + y ≡ x = (let z : Some (n + y) ≡ Some x = h in cc) in
          ap (label first second sides) (sym same) ∙ label_copy first second sides e y q

  pub numberless_is_dead : (cap : ℕ) (v : Elem) → number first second sides v ≡ None → IsDead (comparison first second cap) v
  numberless_is_dead cap (Plain e) h = is_dead first second cap (Plain e) (no_place e h)
  numberless_is_dead cap (Copy e) h = by (place_of first e) refl h
    where
      by : (o : Option ℕ) → place_of first e ≡ o → option_map (λ y. n + y) o ≡ None → IsDead (comparison first second cap) (Copy e)
      by None q h = is_dead first second cap (Copy e) (no_place e q)
      by (Some y) q h = absurd (let z : Some (n + y) ≡ None = h in cc)

  own_state : (x t : ℕ) → x < n → state first second sides x t ≡ to.Go t
  own_state x t l = ap (λ b. cond b (to.Go t) (copy_state (known_of first second sides x) t)) (lt-ltb x n l)

  pub later_state : (x t : ℕ) → state first second sides (n + x) t ≡ copy_state (known_at first second sides x) t
  later_state x t =
      let e : n + x - n ≡ x = omega arith in
      ap (λ b. cond b (to.Go t) (copy_state (known_of first second sides (n + x)) t)) (le-ltb (n + x) n (omega arith))
      ∙ ap (λ z. copy_state (known_at first second sides z) t) e

  abbrev pub Named : Elem → State → ℕ → ℕ → Type 0
  Named v w x t = (label first second sides x ≡ v) × (state first second sides x t ≡ w)

  copy_named : (e : Chars) (w : State) (y x t : ℕ) → place_of first e ≡ Some y → copy_number first second sides y w ≡ Some (x, t) → Named (Copy e) w x t
  copy_named e w y x t p h =
      let s = (place_stands_for e y p).0 in
      let k = known second s.element s.side in
      let is = is_known first second sides kf S y s in
      by (number_in k w) refl is (ap (λ o. option_map {U = ℕ × ℕ} (λ u. (n + y, u)) (option_and_then (λ k. number_in k w) o)) (sym is) ∙ h)
    where
      by : {k : Known} (o : Option ℕ) → number_in k w ≡ o → known_at first second sides y ≡ Some k → option_map {U = ℕ × ℕ} (λ u. (n + y, u)) (number_in k w) ≡ Some (x, t)
          → (label first second sides x ≡ Copy e) × (state first second sides x t ≡ w)
      by {k} None q is h = absurd (let z : None ≡ Some (x, t) = sym (ap (option_map {U = ℕ × ℕ} (λ u. (n + y, u))) q) ∙ h in cc)
      by {k} (Some u) q is h =
          let z : ◌≡◌ {A = Option (ℕ × ℕ)} (Some (n + y, u)) (Some (x, t)) = sym (ap (option_map {U = ℕ × ℕ} (λ u. (n + y, u))) q) ∙ h in
          let both : ◌≡◌ {A = ℕ × ℕ} (n + y, u) (x, t) = cc in
          let place : n + y ≡ x = ap (λ z. z.0) both in
          let same : u ≡ t = ap (λ z. z.1) both in (
            ap (label first second sides) (sym place) ∙ label_copy first second sides e y p,
            ap (λ z. state first second sides z t) (sym place) ∙ later_state y t ∙ ap (λ o. copy_state o t) is
                ∙ numbers_state k w t (q ∙ ap (λ z. Some z) same),
          )

  pub named_states : (v : Elem) (w : State) (x t : ℕ) → state_number first second sides v w ≡ Some (x, t) → Named v w x t
  named_states (Plain e) (to.Go i) x t h = by (place_of first e) refl h
    where
      by : (o : Option ℕ) → place_of first e ≡ o → option_map {U = ℕ × ℕ} (λ y. (y, i)) o ≡ Some (x, t) → (label first second sides x ≡ Plain e) × (state first second sides x t ≡ to.Go i)
      by None q h = absurd (let z : None ≡ Some (x, t) = h in cc)
      by (Some y) q h =
          let z : ◌≡◌ {A = Option (ℕ × ℕ)} (Some (y, i)) (Some (x, t)) = h in
          let both : ◌≡◌ {A = ℕ × ℕ} (y, i) (x, t) = cc in
          let place : y ≡ x = ap (λ z. z.0) both in
          let same : i ≡ t = ap (λ z. z.1) both in (
            ap (label first second sides) (sym place) ∙ label_own first second sides e y q,
            ap (λ z. state first second sides z t) (sym place) ∙ own_state y t (place_within e y q) ∙ ap (λ z. to.Go z) (sym same),
          )
  named_states (Plain e) (to.Fs i) x t h = absurd (let z : None ≡ Some (x, t) = h in cc)
  named_states (Plain e) (to.Gs i j) x t h = absurd (let z : None ≡ Some (x, t) = h in cc)
  named_states (Plain e) to.Start x t h = absurd (let z : None ≡ Some (x, t) = h in cc)
  named_states (Copy e) w x t h = by (place_of first e) refl h
    where
      by : (o : Option ℕ) → place_of first e ≡ o → option_and_then (λ y. copy_number first second sides y w) o ≡ Some (x, t)
          → (label first second sides x ≡ Copy e) × (state first second sides x t ≡ w)
      by None q h = absurd (let z : None ≡ Some (x, t) = h in cc)
      by (Some y) q h = copy_named e w y x t q h

  pub numberless_is_stuck : (cap : ℕ) (v : Elem) (w : State) → state_number first second sides v w ≡ None → IsStuck (comparison first second cap) v w
  numberless_is_stuck cap (Plain e) (to.Go i) h = by (place_of first e) refl h
    where
      by : (o : Option ℕ) → place_of first e ≡ o → option_map {U = ℕ × ℕ} (λ y. (y, i)) o ≡ None → IsStuck (comparison first second cap) (Plain e) (to.Go i)
      by None q h = is_stuck first second cap (Plain e) (to.Go i) (no_place e q)
      by (Some y) q h = absurd (let z : Some (y, i) ≡ None = h in cc)
  numberless_is_stuck cap (Plain e) (to.Fs i) h =
      none_leads first second cap (Plain e) (to.Fs i) (λ z. absurd z) (λ y t. own_only first second e (to.Fs i) y t (λ j q. cc))
  numberless_is_stuck cap (Plain e) (to.Gs i j) h =
      none_leads first second cap (Plain e) (to.Gs i j) (λ z. absurd z) (λ y t. own_only first second e (to.Gs i j) y t (λ j q. cc))
  numberless_is_stuck cap (Plain e) to.Start h =
      none_leads first second cap (Plain e) to.Start (λ z. absurd z) (λ y t. own_only first second e to.Start y t (λ j q. cc))
  numberless_is_stuck cap (Copy e) w h = by (place_of first e) refl h
    where
      by : (o : Option ℕ) → place_of first e ≡ o → option_and_then (λ y. copy_number first second sides y w) o ≡ None → IsStuck (comparison first second cap) (Copy e) w
      by None q h = is_stuck first second cap (Copy e) w (no_place e q)
      by (Some y) q h =
          let t = place_stands_for e y q in
          let s = t.0 in
          let k = known second s.element s.side in
          let is = is_known first second sides kf S y s in
          subst (λ (z : Chars). IsStuck (comparison first second cap) (Copy z) w) t.1
          (numberless first second cap s.element.0 k s.knows w
          (inner (number_in k w) (ap (λ o. option_map {U = ℕ × ℕ} (λ u. (n + y, u)) (option_and_then (λ k. number_in k w) o)) (sym is) ∙ h)))
        where
          inner : (o : Option ℕ) → option_map {U = ℕ × ℕ} (λ u. (n + y, u)) o ≡ None → o ≡ None
          inner None g = refl
          inner (Some u) g = absurd (let z : Some (n + y, u) ≡ None = g in cc)
