-- No inequality fails exactly where the tables are feasible.
use Rattle.std.proofs.Common.{◌≡◌, ◌<◌, ◌+◌, ◌==◌, ℕ, suc, List, [], ◌∷◌, ◌++◌, length, Bool, true, false, not, cond, ◌&&◌, ◌||◌, ◌⊎◌, Option, Some, None, inl, inr, refl, sym, ap, ◌∙◌, subst, arith, bytes_eq, true≢false, find}
use Rattle.std.specs.Prelude.{is_some, option_and_then, position, slice_get, nat_lt}
use Rattle.std.specs.List.{AllByRecursion, flat_map, list_any, range_with_len, position_or_len}
use Rattle.std.specs.Map.{lookup}
use Rattle.std.specs.Option.{option_map_or}
use Rattle.std.proofs.lemmas.Bool.{leb-true, le-leb, le-ltb, eqb-true, and_parts, and_from, both_ways}
use Rattle.content_models.specs.declared.content.Content.{Content}
use Rattle.content_models.specs.Model.{Chars}
use Rattle.attribute_types.proofs.TextTests.{on_test, bytes_same, bytes_own}
use Rattle.position_automata.specs.Automata.{states, FollowsOn, Accepts}
use Rattle.position_automata.proofs.Words.{Member}
use Rattle.position_automata.proofs.Rising.{in_range}
use Rattle.decl_set.specs.Declarations.{Declarations, Element, content_in}
use Rattle.decl_set.specs.Asked.{IsKept, are_apart}
use Rattle.bound_checker.specs.declared.check.Broken.{Broken}
use Rattle.tree_costs.specs.declared.cost.Cost.{Cost}
use Rattle.tree_costs.specs.declared.cost.Cost.TheVariants.{Fin, Inf}
use Rattle.bound_checker.specs.declared.tables.PairRow.{PairRow}
use Rattle.bound_checker.specs.declared.tables.Row.{Row}
use Rattle.bound_checker.specs.declared.tables.Tables.{Tables}
use Rattle.tree_costs.specs.Costs.{AtMost, sum, at_most}
use Rattle.decl_set.specs.Oddness.{odd_in}
use Rattle.position_automata.specs.Stepping.{does_accept, step_on}
use Rattle.decl_set.specs.Steps.{steps_in}
use Rattle.bound_checker.specs.Tabled.{Costs, costs_of, row_of, is_pair}
use Rattle.bound_checker.specs.Kinds.{Feasible}
use Rattle.bound_checker.specs.Tests.{each_at, where_so, test, on_step, on_state, on_both, on_pair, on_pairs, on_top, on_element, pairs_of, tests_of, NoneIsBroken}
use Rattle.tree_costs.proofs.Costs.{at_most-inf, zero-least}
use Rattle.decl_set.proofs.Found.{element_is}
use Rattle.bound_checker.proofs.Stepping.{accept_to, accept_from, steps_to, steps_from, declared_member}
use Rattle.position_automata.proofs.Stepping.{accept_within, step_within, on_to, on_none, on_from}

-- ---- tests that all hold

abbrev Holds : Broken → Type 0
Holds t = AtMost t.left t.right

abbrev All : List Broken → Type 0
All ts = AllByRecursion Holds ts

at_most-to : (c d : Cost) → at_most c d ≡ true → AtMost c d
at_most-to (Fin a) (Fin b) h = leb-true a b h
at_most-to Inf (Fin b) h = absurd (true≢false (sym h))
at_most-to c Inf h = at_most-inf c

at_most-from : (c d : Cost) → AtMost c d → at_most c d ≡ true
at_most-from (Fin a) (Fin b) h = le-leb a b h
at_most-from Inf (Fin b) h = elim h [ ]
at_most-from c Inf h = refl

none-all : (ts : List Broken) → find (λ t. not (at_most t.left t.right)) ts ≡ None → All ts
none-all [] h = tt
none-all (t ∷ ts) h =
    let P : Bool → Type 0 = λ b. at_most t.left t.right ≡ b → cond (not b) (Some t) (find (λ t. not (at_most t.left t.right)) ts) ≡ None → All (t ∷ ts) in
    on_test P (at_most t.left t.right) (λ u q h. (at_most-to t.left t.right q, none-all ts h)) (λ u q h. cc) refl h

all-none : (ts : List Broken) → All ts → find (λ t. not (at_most t.left t.right)) ts ≡ None
all-none [] h = refl
all-none (t ∷ ts) h =
    ap (λ b. cond (not b) (Some t) (find (λ t. not (at_most t.left t.right)) ts)) (at_most-from t.left t.right h.0) ∙ all-none ts h.1

all-left : (xs ys : List Broken) → All (xs ++ ys) → All xs
all-left [] ys h = tt
all-left (x ∷ xs) ys h = (h.0, all-left xs ys h.1)

all-right : (xs ys : List Broken) → All (xs ++ ys) → All ys
all-right [] ys h = h
all-right (x ∷ xs) ys h = all-right xs ys h.1

all-both : (xs ys : List Broken) → All xs → All ys → All (xs ++ ys)
all-both [] ys h g = g
all-both (x ∷ xs) ys h g = (h.0, all-both xs ys h.1 g)

each-to : {X : Type 0} (f : ℕ → X → List Broken) (k : ℕ) (xs : List X) (x : X) → All (each_at f k xs) → Member x xs → (n : ℕ) × All (f n x)
each-to f k [] x h m = elim m [ ]
each-to f k (y ∷ xs) x h (inl e) = (k, subst (λ z. All (f k z)) (sym e) (all-left (f k y) (each_at f (k + 1) xs) h))
each-to f k (y ∷ xs) x h (inr m) = each-to f (k + 1) xs x (all-right (f k y) (each_at f (k + 1) xs) h) m

each-from : {X : Type 0} (f : ℕ → X → List Broken) (k : ℕ) (xs : List X) → ((n : ℕ) (x : X) → Member x xs → All (f n x)) → All (each_at f k xs)
each-from f k [] h = tt
each-from f k (x ∷ xs) h = all-both (f k x) (each_at f (k + 1) xs) (h k x (inl refl)) (each-from f (k + 1) xs (λ n y m. h n y (inr m)))

flat-to : {X : Type 0} (f : X → List Broken) (xs : List X) (x : X) → All (flat_map f xs) → Member x xs → All (f x)
flat-to f [] x h m = elim m [ ]
flat-to f (y ∷ xs) x h (inl e) = subst (λ z. All (f z)) (sym e) (all-left (f y) (flat_map f xs) h)
flat-to f (y ∷ xs) x h (inr m) = flat-to f xs x (all-right (f y) (flat_map f xs) h) m

flat-from : {X : Type 0} (f : X → List Broken) (xs : List X) → ((x : X) → Member x xs → All (f x)) → All (flat_map f xs)
flat-from f [] h = tt
flat-from f (x ∷ xs) h = all-both (f x) (flat_map f xs) (h x (inl refl)) (flat-from f xs (λ y m. h y (inr m)))

where-to : (b : Bool) (t : Broken) → All (where_so b t) → b ≡ true → Holds t
where-to true t h e = h.0
where-to false t h e = absurd (true≢false (sym e))

where-from : (b : Bool) (t : Broken) → (b ≡ true → Holds t) → All (where_so b t)
where-from true t h = (h refl, tt)
where-from false t h = tt

-- ---- what the tables say

pub member_declared : (es : List Element) (e : Chars) (a : Content) → are_apart es ≡ true → Member (e, a) es → lookup (bytes_eq e) es ≡ Some a
member_declared [] e a k m = elim m [ ]
member_declared (x ∷ es) e a k (inl q) =
    ap (λ b. cond b (Some x.1) (lookup (bytes_eq e) es)) (subst (λ (n : Chars). bytes_eq e n ≡ true) (ap (λ y. y.0) q) (bytes_own e)) ∙ ap (λ y. Some y) (sym (ap (λ y. y.1) q))
member_declared (x ∷ es) e a k (inr m) =
    let parts = and_parts (not (list_any (λ other. bytes_eq x.0 other.0) es)) (are_apart es) k in
    let P : Bool → Type 0 = λ b. bytes_eq e x.0 ≡ b → cond b (Some x.1) (lookup (bytes_eq e) es) ≡ Some a in
    on_test P (bytes_eq e x.0)
    (λ t q. absurd (both_ways (not (list_any (λ other. bytes_eq x.0 other.0) es)) (ap not (stands es x.0 e a (bytes_same e x.0 q) m)) parts.0))
    (λ t q. member_declared es e a parts.1 m)
    refl
  where
    stands : (es : List Element) (n e : Chars) (a : Content) → e ≡ n → Member (e, a) es → list_any (λ other. bytes_eq n other.0) es ≡ true
    stands [] n e a q m = elim m [ ]
    stands (y ∷ es) n e a q (inl r) =
        ap (λ b. b || list_any (λ other. bytes_eq n other.0) es) (subst (λ (z : Chars). bytes_eq n z ≡ true) (sym q ∙ ap (λ z. z.0) r) (bytes_own n))
    stands (y ∷ es) n e a q (inr m) =
        let P : Bool → Type 0 = λ b. (b || list_any (λ other. bytes_eq n other.0) es) ≡ true in
        on_test P (bytes_eq n y.0) (λ t. refl) (λ t. stands es n e a q m)

absent : (es : List Element) (e : Chars) → lookup (bytes_eq e) es ≡ None → position_or_len (λ x. bytes_eq e x.0) es ≡ length es
absent [] e h = refl
absent (x ∷ es) e h =
    let P : Bool → Type 0 = λ b. cond b (Some x.1) (lookup (bytes_eq e) es) ≡ None → cond (not b) (1 + position_or_len (λ x. bytes_eq e x.0) es) 0 ≡ suc (length es) in
    on_test P (bytes_eq e x.0) (λ t h. cc) (λ t h. let r = absent es e h in omega (arith, r)) h

not_placed : (es : List Element) (e : Chars) → lookup (bytes_eq e) es ≡ None → position (λ x. bytes_eq e x.0) es ≡ None
not_placed es e h =
    ap (λ n. cond (nat_lt n (length es)) (Some n) None) (absent es e h) ∙ ap (λ b. cond b (Some (length es)) None) (le-ltb (length es) (length es) (omega arith))

module _ (first second : Declarations) (tables : Tables) where
  abbrev cap : ℕ
  cap = tables.cap

  abbrev C : Costs
  C = costs_of first tables

  no_row : (name : Chars) → content_in first name ≡ None → row_of first tables name ≡ None
  no_row name h = ap (option_and_then (slice_get tables.rows)) (not_placed first.elements name h)

  no_m : (name : Chars) → content_in first name ≡ None → C.m name ≡ Inf
  no_m name h = ap (λ o. option_map_or (λ row. row.m) o Inf) (no_row name h)

  no_v : (name : Chars) → content_in first name ≡ None → C.v name ≡ Inf
  no_v name h = ap (λ o. option_map_or (λ row. row.v) o Inf) (no_row name h)

  below_inf : (x y d : Cost) → y ≡ Inf → AtMost x (sum cap y d)
  below_inf x y d q = subst (λ z. AtMost x (sum cap z d)) (sym q) (at_most-inf x)

  found_pair : (i j : ℕ) (pairs : List PairRow) (x : PairRow) → find (is_pair i j) pairs ≡ Some x → Member x pairs × (x.i ≡ i) × (x.j ≡ j)
  found_pair i j [] x h = cc
  found_pair i j (y ∷ pairs) x h =
      let P : Bool → Type 0 = λ b. is_pair i j y ≡ b → cond b (Some y) (find (is_pair i j) pairs) ≡ Some x → Member x (y ∷ pairs) × (x.i ≡ i) × (x.j ≡ j) in
      on_test P (is_pair i j y)
      (λ t q h.
      let same : y ≡ x = cc in
      let p = and_parts (y.i == i) (y.j == j) q in
      (inl (sym same), subst (λ (z : PairRow). z.i ≡ i) same (eqb-true y.i i p.0), subst (λ (z : PairRow). z.j ≡ j) same (eqb-true y.j j p.1)))
      (λ t q h. let f = found_pair i j pairs x h in (inr f.0, f.1, f.2))
      refl h

  -- a pair is listed, or has 0
  listed : (e : Chars) (i j : ℕ) → (C.g e i j ≡ Fin 0) ⊎ ((x : PairRow) × Member x (pairs_of first tables e) × (x.i ≡ i) × (x.j ≡ j))
  listed e i j = by (row_of first tables e)
    where
      in_row : (row : Row) (o : Option PairRow) → find (is_pair i j) row.pairs ≡ o
          → (option_map_or (λ s. s.g) o (Fin 0) ≡ Fin 0) ⊎ ((x : PairRow) × Member x row.pairs × (x.i ≡ i) × (x.j ≡ j))
      in_row row None q = inl refl
      in_row row (Some x) q = let f = found_pair i j row.pairs x q in inr (x, f.0, f.1, f.2)

      by : (o : Option Row) → (option_map_or (λ s. s.g) (option_and_then (λ row. find (is_pair i j) row.pairs) o) (Fin 0) ≡ Fin 0)
          ⊎ ((x : PairRow) × Member x (option_map_or (λ row. row.pairs) o []) × (x.i ≡ i) × (x.j ≡ j))
      by None = inl refl
      by (Some row) = in_row row (find (is_pair i j) row.pairs) refl

  -- ---- where all hold, each kind holds

  module _ (ks : IsKept second) (H : All (tests_of first second tables)) where
    at_element : (e : Chars) (a : Content) → content_in first e ≡ Some a → (n : ℕ) × All (on_element first second cap C (pairs_of first tables) n (e, a))
    at_element e a d = each-to (on_element first second cap C (pairs_of first tables)) 0 first.elements (e, a) H (declared_member first.elements e a d)

    at_state : (e : Chars) (a : Content) (i : ℕ) → content_in first e ≡ Some a → i < states a → (n : ℕ) × All (on_state first second cap C n e a i)
    at_state e a i d l =
        let h = at_element e a d in (
          h.0,
          flat-to (on_state first second cap C h.0 e a) (range_with_len 0 (states a)) i
              (all-left (flat_map (on_state first second cap C h.0 e a) (range_with_len 0 (states a))) _ h.1) (in_range 0 (states a) i (omega arith) (omega (arith, l))),
        )

    at_step : (e : Chars) (a : Content) (i k : ℕ) (name : Chars) → content_in first e ≡ Some a → FollowsOn a i name k
        → ((n : ℕ) × (m : ℕ) × All (on_step first second cap C n e i m (name, k))) ⊎ (content_in first name ≡ None)
    at_step e a i k name d f = elim (steps_from first a i k name f) [
      | inl m ↦ (let h = at_state e a i d (step_within a i k name f) in
          let s = each-to (on_step first second cap C h.0 e i) 0 (steps_in first a i) (name, k)
          (all-right (where_so (does_accept a i) (test 1 h.0 i 0 0 (C.p e i) (Fin 0))) (each_at (on_step first second cap C h.0 e i) 0 (steps_in first a i)) h.1) m in
          inl (h.0, s.0, s.1))
      | inr q ↦ inr q
    ]

    at_pair : (e : Chars) (a b : Content) (x : PairRow) → content_in first e ≡ Some a → content_in second e ≡ Some b → Member x (pairs_of first tables e)
        → (n : ℕ) × All (on_pair first second cap C n e a b x)
    at_pair e a b x d s m =
        let h = at_element e a d in
        let r = all-right (flat_map (on_state first second cap C h.0 e a) (range_with_len 0 (states a))) _ h.1 in
        let p = all-left (on_pairs first second cap C h.0 e a (content_in second e) (pairs_of first tables e)) (on_top first second cap C h.0 e) r in (
          h.0,
          flat-to (on_pair first second cap C h.0 e a b) (pairs_of first tables e) x
              (subst (λ o. All (on_pairs first second cap C h.0 e a o (pairs_of first tables e))) s p) m,
        )

    at_top : (e : Chars) (a : Content) → content_in first e ≡ Some a → (n : ℕ) × All (on_top first second cap C n e)
    at_top e a d =
        let h = at_element e a d in
        let r = all-right (flat_map (on_state first second cap C h.0 e a) (range_with_len 0 (states a))) _ h.1 in
        (h.0, all-right (on_pairs first second cap C h.0 e a (content_in second e) (pairs_of first tables e)) (on_top first second cap C h.0 e) r)

    -- what holds at each listed pair holds at each
    by_pair : (e : Chars) (a b : Content) (i j : ℕ) (y : Cost) → content_in first e ≡ Some a → content_in second e ≡ Some b
        → ((x : PairRow) → Member x (pairs_of first tables e) → x.i ≡ i → x.j ≡ j → AtMost (C.g e i j) y) → AtMost (C.g e i j) y
    by_pair e a b i j y d s h = elim (listed e i j) [
      | inl q ↦ subst (λ z. AtMost z y) (sym q) (zero-least y)
      | inr t ↦ h t.0 t.1 t.2 t.3
    ]

    at_both : (e : Chars) (a b : Content) (x : PairRow) (k : ℕ) (name : Chars) → content_in first e ≡ Some a → content_in second e ≡ Some b → Member x (pairs_of first tables e)
        → FollowsOn a x.i name k → ((n : ℕ) × (m : ℕ) × Holds (on_both first second cap C n e x.i x.j m (name, k) (step_on b x.j name))) ⊎ (content_in first name ≡ None)
    at_both e a b x k name d s m f = elim (steps_from first a x.i k name f) [
      | inl w ↦ (let h = at_pair e a b x d s m in
          let t = each-to (λ m s. on_both first second cap C h.0 e x.i x.j m s (step_on b x.j s.0) ∷ []) 0 (steps_in first a x.i) (name, k)
          (all-right (where_so (does_accept a x.i && not (does_accept b x.j)) (test 5 h.0 x.i x.j 0 (C.g e x.i x.j) (Fin 0))) _ h.1) w in
          inl (h.0, t.0, t.1.0))
      | inr q ↦ inr q
    ]

    does_not : (b : Content) (j : ℕ) → (Accepts b j → ⊥) → not (does_accept b j) ≡ true
    does_not b j w = by (does_accept b j) refl
      where
        by : (o : Bool) → does_accept b j ≡ o → not o ≡ true
        by true q = absurd (w (accept_to b j q))
        by false q = refl

    feasible : Feasible first second cap C
    feasible = record {
      k1 = λ e a i d f. (let h = at_state e a i d (accept_within a i f) in
          where-to (does_accept a i) (test 1 h.0 i 0 0 (C.p e i) (Fin 0)) (all-left (where_so (does_accept a i) (test 1 h.0 i 0 0 (C.p e i) (Fin 0))) _ h.1) (accept_from a i f));
      k2 = λ e name a i k d f. elim (at_step e a i k name d f) [ inl t ↦ t.2.0 | inr q ↦ below_inf (C.p e i) (C.m name) (C.p e k) (no_m name q) ];
      k3 = λ e name a i k d f. elim (at_step e a i k name d f) [ inl t ↦ t.2.1.0 | inr q ↦ below_inf (C.f e i) (C.v name) (C.p e k) (no_v name q) ];
      k4 = λ e name a i k d f. elim (at_step e a i k name d f) [ inl t ↦ t.2.1.1.0 | inr q ↦ below_inf (C.f e i) (C.m name) (C.f e k) (no_m name q) ];
      k5 = λ e a b i j d s f w. by_pair e a b i j (Fin 0) d s (λ x m p q.
          let h = at_pair e a b x d s m in
          let t = where-to (does_accept a x.i && not (does_accept b x.j)) (test 5 h.0 x.i x.j 0 (C.g e x.i x.j) (Fin 0))
          (all-left (where_so (does_accept a x.i && not (does_accept b x.j)) (test 5 h.0 x.i x.j 0 (C.g e x.i x.j) (Fin 0))) _ h.1)
          (and_from (does_accept a x.i) (not (does_accept b x.j)) (accept_from a x.i (subst (Accepts a) (sym p) f))
          (does_not b x.j (λ z. w (subst (Accepts b) q z)))) in
          subst (λ z. AtMost (C.g e z j) (Fin 0)) p (subst (λ z. AtMost (C.g e x.i z) (Fin 0)) q t));
      k6 = λ e name a b i j k l d s f g. by_pair e a b i j (sum cap (C.m name) (C.g e k l)) d s (λ x m p q.
          subst (λ z. AtMost (C.g e z j) (sum cap (C.m name) (C.g e k l))) p (subst (λ z. AtMost (C.g e x.i z) (sum cap (C.m name) (C.g e k l))) q
          (elim (at_both e a b x k name d s m (subst (λ z. FollowsOn a z name k) (sym p) f)) [
            | inl t ↦ subst (λ o. Holds (on_both first second cap C t.0 e x.i x.j t.1 (name, k) o))
                (on_from b x.j l name (element_is second e b ks s).deterministic (subst (λ z. FollowsOn b z name l) (sym q) g)) t.2
            | inr n ↦ below_inf (C.g e x.i x.j) (C.m name) (C.g e k l) (no_m name n)
          ])));
      k7 = λ e name a b i j k d s f w. by_pair e a b i j (sum cap (C.m name) (C.p e k)) d s (λ x m p q.
          subst (λ z. AtMost (C.g e z j) (sum cap (C.m name) (C.p e k))) p (subst (λ z. AtMost (C.g e x.i z) (sum cap (C.m name) (C.p e k))) q
          (elim (at_both e a b x k name d s m (subst (λ z. FollowsOn a z name k) (sym p) f)) [
            | inl t ↦ subst (λ o. Holds (on_both first second cap C t.0 e x.i x.j t.1 (name, k) o)) (none_on b x.j name (λ l z. w l (subst (λ y. FollowsOn b y name l) q z))) t.2
            | inr n ↦ below_inf (C.g e x.i x.j) (C.m name) (C.p e k) (no_m name n)
          ])));
      k8 = λ e a d. (at_top e a d).1.0;
      k9 = λ e a d. (at_top e a d).1.1.0;
      k10 = λ e a b d s. (let h = at_top e a d in
          where-to (is_some (content_in second e)) (test 10 h.0 0 0 0 (C.v e) (sum cap (Fin 1) (C.g e 0 0)))
          (all-left (where_so (is_some (content_in second e)) (test 10 h.0 0 0 0 (C.v e) (sum cap (Fin 1) (C.g e 0 0)))) _ h.1.1.1) (ap is_some s));
      k11 = λ e a d o. (let h = at_top e a d in
          where-to (is_some (odd_in first second e)) (test 11 h.0 0 0 0 (C.v e) (C.m e))
          (all-right (where_so (is_some (content_in second e)) (test 10 h.0 0 0 0 (C.v e) (sum cap (Fin 1) (C.g e 0 0)))) _ h.1.1.1) o);
    }
      where
        none_on : (b : Content) (j : ℕ) (name : Chars) → ((l : ℕ) → FollowsOn b j name l → ⊥) → step_on b j name ≡ None
        none_on b j name w = by (step_on b j name) refl
          where
            by : (o : Option ℕ) → step_on b j name ≡ o → step_on b j name ≡ None
            by None q = q
            by (Some l) q = absurd (w l (on_to b j l name q))

  -- ---- where each kind holds, all hold

  module _ (kf : IsKept first) (F : Feasible first second cap C) where
    state_holds : (n : ℕ) (e : Chars) (a : Content) (i : ℕ) → content_in first e ≡ Some a → All (on_state first second cap C n e a i)
    state_holds n e a i d =
        all-both (where_so (does_accept a i) (test 1 n i 0 0 (C.p e i) (Fin 0))) (each_at (on_step first second cap C n e i) 0 (steps_in first a i))
        (where-from (does_accept a i) (test 1 n i 0 0 (C.p e i) (Fin 0)) (λ q. F.k1 e a i d (accept_to a i q)))
        (each-from (on_step first second cap C n e i) 0 (steps_in first a i) (λ m s w.
        let f = steps_to first a i s w in (F.k2 e s.0 a i s.1 d f, (F.k3 e s.0 a i s.1 d f, (F.k4 e s.0 a i s.1 d f, tt)))))

    both_holds : (n m : ℕ) (e : Chars) (a b : Content) (i j : ℕ) (s : Chars × ℕ) → content_in first e ≡ Some a → content_in second e ≡ Some b → FollowsOn a i s.0 s.1
        → (o : Option ℕ) → step_on b j s.0 ≡ o → Holds (on_both first second cap C n e i j m s o)
    both_holds n m e a b i j s d q f None w = F.k7 e s.0 a b i j s.1 d q f (λ l z. on_none b j l s.0 w z)
    both_holds n m e a b i j s d q f (Some l) w = F.k6 e s.0 a b i j s.1 l d q f (on_to b j l s.0 w)

    pair_holds : (n : ℕ) (e : Chars) (a b : Content) (x : PairRow) → content_in first e ≡ Some a → content_in second e ≡ Some b → All (on_pair first second cap C n e a b x)
    pair_holds n e a b x d q =
        all-both (where_so (does_accept a x.i && not (does_accept b x.j)) (test 5 n x.i x.j 0 (C.g e x.i x.j) (Fin 0))) _
        (where-from (does_accept a x.i && not (does_accept b x.j)) (test 5 n x.i x.j 0 (C.g e x.i x.j) (Fin 0)) (λ h.
        let p = and_parts (does_accept a x.i) (not (does_accept b x.j)) h in
        F.k5 e a b x.i x.j d q (accept_to a x.i p.0) (λ z. both_ways (not (does_accept b x.j)) (ap not (accept_from b x.j z)) p.1)))
        (each-from (λ m s. on_both first second cap C n e x.i x.j m s (step_on b x.j s.0) ∷ []) 0 (steps_in first a x.i) (λ m s w.
        (both_holds n m e a b x.i x.j s d q (steps_to first a x.i s w) (step_on b x.j s.0) refl, tt)))

    pairs_hold : (n : ℕ) (e : Chars) (a : Content) (pairs : List PairRow) → content_in first e ≡ Some a → (o : Option Content) → content_in second e ≡ o
        → All (on_pairs first second cap C n e a o pairs)
    pairs_hold n e a pairs d None q = tt
    pairs_hold n e a pairs d (Some b) q = flat-from (on_pair first second cap C n e a b) pairs (λ x m. pair_holds n e a b x d q)

    ten : (e : Chars) (a : Content) → content_in first e ≡ Some a → (o : Option Content) → content_in second e ≡ o → is_some o ≡ true → AtMost (C.v e) (sum cap (Fin 1) (C.g e 0 0))
    ten e a d None q h = absurd (true≢false (sym h))
    ten e a d (Some b) q h = F.k10 e a b d q

    element_holds : (n : ℕ) (e : Chars) (a : Content) → content_in first e ≡ Some a → All (on_element first second cap C (pairs_of first tables) n (e, a))
    element_holds n e a d =
        all-both (flat_map (on_state first second cap C n e a) (range_with_len 0 (states a))) _
        (flat-from (on_state first second cap C n e a) (range_with_len 0 (states a)) (λ i m. state_holds n e a i d))
        (all-both (on_pairs first second cap C n e a (content_in second e) (pairs_of first tables e)) _
        (pairs_hold n e a (pairs_of first tables e) d (content_in second e) refl) (
          F.k8 e a d,
          (
            F.k9 e a d,
            all-both (where_so (is_some (content_in second e)) (test 10 n 0 0 0 (C.v e) (sum cap (Fin 1) (C.g e 0 0)))) _
                (where-from (is_some (content_in second e)) (test 10 n 0 0 0 (C.v e) (sum cap (Fin 1) (C.g e 0 0))) (ten e a d (content_in second e) refl))
                (where-from (is_some (odd_in first second e)) (test 11 n 0 0 0 (C.v e) (C.m e)) (λ o. F.k11 e a d o)),
          ),
        ))

    all_hold : All (tests_of first second tables)
    all_hold = each-from (on_element first second cap C (pairs_of first tables)) 0 first.elements
        (λ n x m. element_holds n x.0 x.1 (member_declared first.elements x.0 x.1 kf.elements_apart m))

pub none_is_broken : NoneIsBroken
none_is_broken first second tables kf ks = (
  (λ h. feasible first second tables ks (none-all (tests_of first second tables) h)),
  (λ F. all-none (tests_of first second tables) (all_hold first second tables kf F)),
)
