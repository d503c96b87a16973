-- The rows of a solved comparison have its exact costs.
use Rattle.std.proofs.Common.{◌≡◌, ◌≤◌, ◌<◌, ◌+◌, ℕ, zero, suc, inl, inr, List, [], ◌∷◌, length, map, Bool, true, false, cond, find, Option, Some, None, slice_get, refl, sym, ap, ◌∙◌, subst, arith}
use Rattle.std.specs.Prelude.{option_and_then, option_map}
use Rattle.std.specs.List.{AllByRecursion}
use Rattle.std.specs.Option.{option_map_or}
use Rattle.std.proofs.lemmas.Bool.{lt-ltb, le-ltb, cases_lt}
use Rattle.content_models.specs.declared.content.Content.{Content}
use Rattle.content_models.specs.Model.{Chars}
use Rattle.position_automata.specs.Automata.{states}
use Rattle.decl_set.specs.Asked.{IsKept}
use Rattle.decl_set.specs.Declarations.{Declarations, Element, content_in}
use Rattle.tagset_report.specs.Live.{AreListed}
use Rattle.tree_costs.specs.declared.cost.Cost.{Cost}
use Rattle.tree_costs.specs.declared.cost.Cost.TheVariants.{Fin, Inf}
use Rattle.tree_costs.specs.Costs.{IsSmall}
use Rattle.tree_costs.specs.Leasts.{place_of}
use Rattle.tree_costs.specs.Numbered.{graph_of}
use Rattle.tree_costs.proofs.Places.{has_place}
use Rattle.least_trees.specs.declared.settled.SettledRow.{SettledRow}
use Rattle.least_trees.specs.Rows.{m_of, p_of, IsSettled}
use Rattle.bound_checker.specs.declared.tables.StateRow.{StateRow}
use Rattle.bound_checker.specs.declared.tables.PairRow.{PairRow}
use Rattle.bound_checker.specs.declared.tables.Row.{Row}
use Rattle.bound_checker.specs.declared.tables.Tables.{Tables}
use Rattle.bound_checker.specs.Tabled.{Costs, costs_of, row_of, states_of, is_pair, IsPair, FitsRow, FitRows}
use Rattle.exact_tables.specs.Families.{IsListed, IsExact}
use Rattle.exact_tables.specs.Comparing.{Elem, Plain, Copy, State, AreTables}
use Rattle.exact_tables.specs.Comparing as to
use Rattle.exact_tables.proofs.NumberedTables.{numbered_is_exact}
use Rattle.comparison_tables.specs.declared.sides.Side.{Side}
use Rattle.comparison_tables.specs.Kinds.{wrong_number, pair_number}
use Rattle.comparison_tables.specs.Outcome.{ListPairs, HaveExactCosts}
use Rattle.comparison_tables.specs.Plans.{own_states, states_of_copy, known_of, plan_of, numbers_of}
use Rattle.comparison_tables.specs.Rows.{cost_at, state_rows, pair_rows, row_from, IsRowOf, AreRows}
use Rattle.comparison_tables.specs.Sides.{ArePairsOf, AreSides, Known, known, is_at}
use Rattle.comparison_tables.specs.Standing.{label, state, number_in, copy_number, cost_by, state_cost_by}
use Rattle.comparison_tables.proofs.Carried.{numbers_stand, costs_are_carried}
use Rattle.comparison_tables.proofs.Halves.{place_stands, some_found}
use Rattle.comparison_tables.proofs.Knowing.{Stands, stands, is_known, stands_within, pairs_ascend, pair_listed, listed_place}
use Rattle.comparison_tables.proofs.Numbering.{place_stands_for}
use Rattle.comparison_tables.proofs.Rowed.{states_count, state_at, state_past, states_all, find_none, find_some, pairs_all, rows_ascend, rows_states}
use Rattle.comparison_tables.proofs.Small.{tree_small, path_small, leads_within}

module _ (first second : Declarations) (sides : List Side) (cap : ℕ) (kf : IsKept first) (ks : IsKept second) (S : AreSides first second sides) (small : cap ≤ 100000)
    (settled : List (SettledRow Cost)) (X : IsSettled (plan_of first second sides cap) (λ c. c) settled)
    (rows : List Row) (R : AreRows first second sides settled (length first.elements) rows) where
  abbrev n : ℕ
  n = length first.elements

  abbrev m : ℕ → Cost
  m = m_of (λ c. c) settled

  abbrev p : ℕ → ℕ → Cost
  p = p_of (λ c. c) settled

  -- the row of an element, with the settled rows that it was read off
  record Read (x : ℕ) (s : Stands first second sides x) : Type 0 where
    own : SettledRow Cost
    copy : SettledRow Cost
    own_there : slice_get settled x ≡ Some own
    copy_there : slice_get settled (n + x) ≡ Some copy
    row_there : slice_get rows x ≡ Some (row_from (states s.element.1) s.side.pairs own copy)
    own_size : length own.p ≡ states s.element.1

  read : (x : ℕ) (s : Stands first second sides x) → Read x s
  read x s =
      let l = stands_within first second sides kf S x s in
      let t = subst (λ (o : Option Known). IsRowOf settled n o x (slice_get rows x)) (is_known first second sides kf S x s) (R.each x l) in
      record {
        own = t.0;
        copy = t.1;
        own_there = t.2;
        copy_there = t.3;
        row_there = t.4;
        own_size = sized t.0 t.2 l;
      }
    where
      sized : (own : SettledRow Cost) → slice_get settled x ≡ Some own → x < n → length own.p ≡ states s.element.1
      sized own q l =
          let h = X.states x (omega arith) in
          sym (ap (λ o. option_map_or (λ (row : SettledRow Cost). length row.p) o 0) q) ∙ h
          ∙ ap (λ b. cond b (own_states (slice_get first.elements x)) (states_of_copy (known_of first second sides x))) (lt-ltb x n l) ∙ ap own_states s.there

  -- ---- costs

  module _ (root : Chars) where
    abbrev tables : Tables
    tables = record { root = root; cap = cap; rows = rows }

    abbrev c : Costs
    c = costs_of first tables

    abbrev d : Elem → Cost
    d v = cost_by first second sides m v

    abbrev q : Elem → State → Cost
    q v w = state_cost_by first second sides p v w

    elements_at : (o : Option ℕ) (e : Chars) → place_of first e ≡ o
        → option_map_or (λ row. row.m) (option_and_then (slice_get rows) o) Inf ≡ option_map_or m o Inf
    elements_at None e h = refl
    elements_at (Some x) e h =
        let s = (place_stands_for first second sides kf S e x h).0 in
        let r = read x s in
        ap (λ o. option_map_or (λ (row : Row). row.m) o Inf) r.row_there ∙ sym (ap (λ o. option_map_or (λ (row : SettledRow Cost). row.m) o Inf) r.own_there)

    copies_at : (o : Option ℕ) (e : Chars) → place_of first e ≡ o
        → option_map_or (λ row. row.v) (option_and_then (slice_get rows) o) Inf ≡ option_map_or m (option_map (λ x. n + x) o) Inf
    copies_at None e h = refl
    copies_at (Some x) e h =
        let s = (place_stands_for first second sides kf S e x h).0 in
        let r = read x s in
        ap (λ o. option_map_or (λ (row : Row). row.v) o Inf) r.row_there ∙ sym (ap (λ o. option_map_or (λ (row : SettledRow Cost). row.m) o Inf) r.copy_there)

    -- what is said by the row of an element at its place
    by_row : (A : Type 0) (f : Row → Option A) (e : Chars) (a : Content) → content_in first e ≡ Some a
        → (x : ℕ) × (s : Stands first second sides x) × (r : Read x s) × (place_of first e ≡ Some x) × (s.element ≡ (e, a))
        × (option_and_then f (row_of first tables e) ≡ f (row_from (states s.element.1) s.side.pairs r.own r.copy))
    by_row A f e a h =
        let t = has_place first e a h in
        let s = stands first second sides kf S t.0 (e, a) t.2 in
        let y : Some s.element ≡ Some (e, a) = sym s.there ∙ t.2 in
        let same : s.element ≡ (e, a) = cc in
        let r = read t.0 s in
        (t.0, s, r, t.1, same, ap (λ o. option_and_then f (option_and_then (slice_get rows) o)) t.1 ∙ ap (option_and_then f) r.row_there)

    state_p : (k i : ℕ) (own copy : List Cost) → length own ≡ k
        → option_map_or (λ s. s.p) (slice_get (state_rows k own copy k) i) Inf ≡ cost_at own i
    state_p k i own copy l = elim (cases_lt i k) [
      | inl b ↦ ap (λ o. option_map_or (λ (s : StateRow). s.p) o Inf) (state_at k own copy k i b)
      | inr b ↦
          ap (λ o. option_map_or (λ (s : StateRow). s.p) o Inf) (state_past k own copy k i (omega arith))
          ∙ sym (ap (λ o. option_map_or (λ (c : Cost). c) o Inf) (past own i (omega (arith, l))))
    ]
      where
        past : (xs : List Cost) (i : ℕ) → length xs ≤ i → slice_get xs i ≡ None
        past [] i l = refl
        past (x ∷ xs) zero l = absurd (omega arith)
        past (x ∷ xs) (suc i) l = past xs i (omega arith)

    states_are : (e : Chars) (a : Content) (i : ℕ) → content_in first e ≡ Some a → c.p e i ≡ q (Plain e) (to.Go i)
    states_are e a i h =
        let t = by_row StateRow (λ row. slice_get row.states i) e a h in
        let s = t.1 in
        let r = t.2 in
        ap (λ o. option_map_or (λ (z : StateRow). z.p) o Inf) t.5 ∙ state_p (states s.element.1) i (r.own).p (r.copy).p r.own_size
        ∙ sym (ap (λ o. option_map_or (λ (z : ℕ × ℕ). p z.0 z.1) (option_map {U = ℕ × ℕ} (λ x. (x, i)) o) Inf) t.3
        ∙ ap (λ o. option_map_or (λ (z : Cost). z) (option_and_then (λ (row : SettledRow Cost). slice_get row.p i) o) Inf) r.own_there)

    -- the cost of a state of a copy
    copy_cost : (x : ℕ) (s : Stands first second sides x) (r : Read x s) (w : State) (e : Chars) (o : Option ℕ) → place_of first e ≡ Some x
        → number_in (known second s.element s.side) w ≡ o → q (Copy e) w ≡ option_map_or (cost_at (r.copy).p) o Inf
    copy_cost x s r w e o h k =
        ap (λ z. option_map_or (λ (y : ℕ × ℕ). p y.0 y.1) (option_and_then (λ y. copy_number first second sides y w) z) Inf) h
        ∙ ap (λ z. option_map_or (λ (y : ℕ × ℕ). p y.0 y.1) (option_map {U = ℕ × ℕ} (λ t. (n + x, t)) (option_and_then (λ k. number_in k w) z)) Inf)
        (is_known first second sides kf S x s)
        ∙ ap (λ z. option_map_or (λ (y : ℕ × ℕ). p y.0 y.1) (option_map {U = ℕ × ℕ} (λ t. (n + x, t)) z) Inf) k ∙ by o
      where
        by : (o : Option ℕ) → option_map_or (λ (y : ℕ × ℕ). p y.0 y.1) (option_map {U = ℕ × ℕ} (λ t. (n + x, t)) o) Inf ≡ option_map_or (cost_at (r.copy).p) o Inf
        by None = refl
        by (Some t) = ap (λ o. option_map_or (λ (z : Cost). z) (option_and_then (λ (row : SettledRow Cost). slice_get row.p t) o) Inf) r.copy_there

    wrong_are : (e : Chars) (a : Content) (i : ℕ) → content_in first e ≡ Some a → c.f e i ≡ q (Copy e) (to.Fs i)
    wrong_are e a i h =
        let t = by_row StateRow (λ row. slice_get row.states i) e a h in
        let s = t.1 in
        let r = t.2 in
        let k = states s.element.1 in
        elim (cases_lt i k) [
          | inl b ↦
              ap (λ o. option_map_or (λ (z : StateRow). z.f) o Inf) (t.5 ∙ state_at k (r.own).p (r.copy).p k i b)
              ∙ sym (copy_cost t.0 s r (to.Fs i) e (Some (wrong_number k i)) t.3 (ap (λ b. cond b (Some (wrong_number k i)) None) (lt-ltb i k b)))
          | inr b ↦
              ap (λ o. option_map_or (λ (z : StateRow). z.f) o Inf) (t.5 ∙ state_past k (r.own).p (r.copy).p k i (omega arith))
              ∙ sym (copy_cost t.0 s r (to.Fs i) e None t.3 (ap (λ b. cond b (Some (wrong_number k i)) None) (le-ltb i k (omega arith))))
        ]

    -- ---- pairs

    listed_in : (e : Chars) (a b : Content) (x : ℕ) (s : Stands first second sides x) → s.element ≡ (e, a) → content_in second e ≡ Some b → AreListed first a b s.side.pairs
    listed_in e a b x s same h =
        let K = s.knows in
        let o : content_in second s.element.0 ≡ Some b = ap (λ (z : Element). content_in second z.0) same ∙ h in
        subst (λ (z : Element). AreListed first z.1 b s.side.pairs) same (subst (λ (z : Option Content). ArePairsOf first s.element.1 z s.side.pairs) o K.pairs)

    pairs_are : (e : Chars) (a b : Content) (i j : ℕ) → content_in first e ≡ Some a → content_in second e ≡ Some b → IsListed first a b i j
        → c.g e i j ≡ q (Copy e) (to.Gs i j)
    pairs_are e a b i j h g l =
        let t = by_row PairRow (λ row. find (is_pair i j) row.pairs) e a h in
        let s = t.1 in
        let r = t.2 in
        let k = states s.element.1 in
        let A = listed_in e a b t.0 s t.4 g in
        let u = listed_place first a b s.side.pairs i j A l in
        let z : 0 + u.0 ≡ u.0 = omega arith in
        ap (λ o. option_map_or (λ (y : PairRow). y.g) o (Fin 0)) (t.5 ∙ find_some k (r.copy).p i j 0 u.0 s.side.pairs A.ascending u.2)
        ∙ ap (λ y. cost_at (r.copy).p (pair_number k y)) z
        ∙ sym (copy_cost t.0 s r (to.Gs i j) e (Some (pair_number k u.0)) t.3 (ap (option_map (pair_number k)) u.1))

    unlisted_are : (e : Chars) (a b : Content) (i j : ℕ) → content_in first e ≡ Some a → content_in second e ≡ Some b → (IsListed first a b i j → ⊥) → c.g e i j ≡ Fin 0
    unlisted_are e a b i j h g off_list =
        let t = by_row PairRow (λ row. find (is_pair i j) row.pairs) e a h in
        let s = t.1 in
        let r = t.2 in
        let A = listed_in e a b t.0 s t.4 g in
        ap (λ o. option_map_or (λ (y : PairRow). y.g) o (Fin 0)) (t.5 ∙ find_none (states s.element.1) (r.copy).p i j 0 s.side.pairs (λ l y u. off A l y u))
      where
        off : {pairs : List (ℕ × ℕ)} → AreListed first a b pairs → (l : ℕ) (y : ℕ × ℕ) → slice_get pairs l ≡ Some y → is_at i j y ≡ false
        off {pairs} A l y u = by (is_at i j y) refl
          where
            by : (z : Bool) → is_at i j y ≡ z → is_at i j y ≡ false
            by true z =
                let w = place_stands pairs i j l (some_found pairs i j l y A.ascending u z) in
                absurd (off_list (pair_listed first a (Some b) pairs l i j A w b refl))
            by false z = z

    are_tables : AreTables first second d q c
    are_tables = record {
      elements = λ e. elements_at (place_of first e) e refl;
      copies = λ e. copies_at (place_of first e) e refl;
      states = states_are;
      wrong = wrong_are;
      pairs = pairs_are;
      unlisted = unlisted_are;
    }

    exact : IsExact first second cap c
    exact =
        numbered_is_exact first second (numbers_of first second sides cap) (label first second sides) (state first second sides) m p d q c kf ks
        (numbers_stand first second sides cap kf ks S) X.solved (costs_are_carried first second sides cap m p kf ks S X.solved) are_tables

  -- ---- shape

  small_at : (x i : ℕ) → IsSmall cap (p x i)
  small_at x i = path_small (graph_of (numbers_of first second sides cap)) m p X.solved x i

  own_small : (x : ℕ) (row : SettledRow Cost) → slice_get settled x ≡ Some row → IsSmall cap row.m
  own_small x row h =
      subst (IsSmall cap) (ap (λ o. option_map_or (λ (z : SettledRow Cost). z.m) o Inf) h) (tree_small (graph_of (numbers_of first second sides cap)) m p X.solved x)

  cost_small : (x i : ℕ) (row : SettledRow Cost) → slice_get settled x ≡ Some row → IsSmall cap (cost_at row.p i)
  cost_small x i row h =
      subst (IsSmall cap) (ap (λ o. option_map_or (λ (z : Cost). z) (option_and_then (λ (y : SettledRow Cost). slice_get y.p i) o) Inf) h) (small_at x i)

  pair_fits : (a : Content) (o : Option Content) (pairs : List (ℕ × ℕ)) (copy : List Cost) → ArePairsOf first a o pairs → ((i : ℕ) → IsSmall cap (cost_at copy i))
      → AllByRecursion (IsPair cap a o) (pair_rows (states a) copy 0 pairs)
  pair_fits a None pairs copy A h = subst (λ z. AllByRecursion (IsPair cap a None) (pair_rows (states a) copy 0 z)) (sym A) tt
  pair_fits a (Some b) pairs copy A h = pairs_all (states a) copy (IsPair cap a (Some b)) 0 pairs
      (λ l y q. let t = pair_listed first a (Some b) pairs l y.0 y.1 A q b refl in (leads_within a t.0 y.0 t.2, leads_within b t.0 y.1 t.3, h (pair_number (states a) (0 + l))))

  fits : (x : ℕ) (e : Element) (row : Row) → slice_get first.elements x ≡ Some e → slice_get rows x ≡ Some row → FitsRow cap second e.0 e.1 row
  fits x e row h g =
      let s = stands first second sides kf S x e h in
      let r = read x s in
      let y : Some s.element ≡ Some e = sym s.there ∙ h in
      let same : s.element ≡ e = cc in
      let z : Some (row_from (states s.element.1) s.side.pairs r.own r.copy) ≡ Some row = sym r.row_there ∙ g in
      let is : row_from (states s.element.1) s.side.pairs r.own r.copy ≡ row = cc in
      let a = s.element.1 in
      let fit : FitsRow cap second s.element.0 a (row_from (states a) s.side.pairs r.own r.copy) = record {
        m = own_small x r.own r.own_there;
        v = own_small (n + x) r.copy r.copy_there;
        count = states_count (states a) (r.own).p (r.copy).p (states a);
        p = states_all (states a) (r.own).p (r.copy).p (λ s. IsSmall cap s.p) (states a) (λ i. cost_small x i r.own r.own_there);
        f = states_all (states a) (r.own).p (r.copy).p (λ s. IsSmall cap s.f) (states a) (λ i. cost_small (n + x) (wrong_number (states a) i) r.copy r.copy_there);
        pairs = pair_fits a (content_in second s.element.0) s.side.pairs (r.copy).p (s.knows).pairs (λ i. cost_small (n + x) i r.copy r.copy_there);
        ascending = rows_ascend (states a) (r.copy).p 0 s.side.pairs (pairs_ascend first a (content_in second s.element.0) s.side.pairs (s.knows).pairs);
      } in
      subst (λ (z : Element). FitsRow cap second z.0 z.1 row) same (subst (λ (z : Row). FitsRow cap second s.element.0 s.element.1 z) is fit)

  lists : (x : ℕ) (e : Element) (row : Row) → slice_get first.elements x ≡ Some e → slice_get rows x ≡ Some row
      → ArePairsOf first e.1 (content_in second e.0) (map states_of row.pairs)
  lists x e row h g =
      let s = stands first second sides kf S x e h in
      let r = read x s in
      let y : Some s.element ≡ Some e = sym s.there ∙ h in
      let same : s.element ≡ e = cc in
      let z : Some (row_from (states s.element.1) s.side.pairs r.own r.copy) ≡ Some row = sym r.row_there ∙ g in
      let is : row_from (states s.element.1) s.side.pairs r.own r.copy ≡ row = cc in
      let a = s.element.1 in
      subst (λ (z : Element). ArePairsOf first z.1 (content_in second z.0) (map states_of row.pairs)) same
      (subst (λ (z : Row). ArePairsOf first a (content_in second s.element.0) (map states_of z.pairs)) is
      (subst (ArePairsOf first a (content_in second s.element.0)) (sym (rows_states (states a) (r.copy).p 0 s.side.pairs)) (s.knows).pairs))

  by_places : (es : List Element) (rs : List Row) → length rs ≡ length es
      → ((x : ℕ) (e : Element) (row : Row) → slice_get es x ≡ Some e → slice_get rs x ≡ Some row → FitsRow cap second e.0 e.1 row) → FitRows cap second es rs
  by_places [] [] l h = tt
  by_places [] (r ∷ rs) l h = absurd (omega arith)
  by_places (e ∷ es) [] l h = absurd (omega arith)
  by_places (e ∷ es) (r ∷ rs) l h = (h 0 e r refl refl, by_places es rs (omega arith) (λ x y z. h (suc x) y z))

  lists_by_places : (es : List Element) (rs : List Row) → length rs ≡ length es
      → ((x : ℕ) (e : Element) (row : Row) → slice_get es x ≡ Some e → slice_get rs x ≡ Some row → ArePairsOf first e.1 (content_in second e.0) (map states_of row.pairs))
      → ListPairs first second es rs
  lists_by_places [] [] l h = tt
  lists_by_places [] (r ∷ rs) l h = absurd (omega arith)
  lists_by_places (e ∷ es) [] l h = absurd (omega arith)
  lists_by_places (e ∷ es) (r ∷ rs) l h = (h 0 e r refl refl, lists_by_places es rs (omega arith) (λ x y z. h (suc x) y z))

  pub have_exact_costs : HaveExactCosts first second cap rows
  have_exact_costs = record {
    fit = by_places first.elements rows R.size fits;
    exact = exact;
    pairs = lists_by_places first.elements rows R.size lists;
  }
