-- Tables that are read from a certificate fit.
use Rattle.std.proofs.Common.{◌≡◌, ◌≤◌, ◌+◌, ◌==◌, ◌&&◌, ◌||◌, ℕ, zero, suc, List, [], ◌∷◌, Bool, true, false, cond, Option, Some, None, ◌⊎◌, inl, inr, refl, sym, ap, ◌∙◌, subst, arith, length, true≢false}
use Rattle.std.specs.Prelude.{Result, Ok, Err, option_and_then, option_map, is_some, nat_le, nat_lt, codes, bytes_eq}
use Rattle.std.specs.List.{AllByRecursion}
use Rattle.std.proofs.lemmas.Bool.{leb-true, ltb-true, eqb-true}
use Rattle.content_models.specs.declared.content.Content.{Content}
use Rattle.content_models.specs.Model.{Chars}
use Rattle.position_automata.specs.Automata.{states}
use Rattle.decl_set.specs.Declarations.{Declarations, content_in}
use Rattle.tree_costs.specs.declared.cost.Cost.{Cost}
use Rattle.tree_costs.specs.declared.cost.Cost.TheVariants.{Fin, Inf}
use Rattle.bound_checker.specs.declared.tables.StateRow.{StateRow}
use Rattle.bound_checker.specs.declared.tables.PairRow.{PairRow}
use Rattle.bound_checker.specs.declared.tables.Row.{Row}
use Rattle.bound_checker.specs.declared.tables.Tables.{Tables}
use Rattle.tree_costs.specs.Costs.{IsSmall}
use Rattle.bound_checker.specs.Tabled.{IsPair, IsBefore, AreAscending, FitsRow, FitRows, Fits}
use Rattle.bound_checker.specs.Certificates.{Rest, after, split, number_in, numbers_in, cost_of, cost_in, costs_in, both, element_in, element_head, state_in, state_head, a_state, pair_in, a_pair, root_in, head_in, end_in, and_then, wanted, begun, next, read_states, comes_after, may_follow, read_pairs, a_row, read_row, read_rows, read_body, read_from, the_tables, ReadFits}
use Rattle.bound_checker.proofs.Certificates.{Follows}

-- ---- steps backwards

abbrev IsGood : {A : Type 0} → Result A ℕ → Type 0
IsGood (Ok a) = Unit {0}
IsGood (Err k) = ⊥

abbrev IsThere : {A : Type 0} → Option A → Type 0
IsThere (Some a) = Unit {0}
IsThere None = ⊥

abbrev IsSame : {A : Type 0} → Result A ℕ → Result A ℕ → Type 0
IsSame r s = r ≡ s

never : {A : Type 0} (k : ℕ) (q : A) → IsSame (Err k) (Ok q) → ⊥
never k q h = subst IsGood (sym h) tt

nothing_there : {A : Type 0} (q : A) → None ≡ Some q → ⊥
nothing_there q h = subst IsThere (sym h) tt

ok_same : {A : Type 0} (x y : A) → IsSame (Ok x) (Ok y) → x ≡ y
ok_same x y h = cc

some_same : {A : Type 0} (x y : A) → Some x ≡ Some y → x ≡ y
some_same x y h = cc

then_back : {A B : Type 0} (r : Result A ℕ) (f : A → Result B ℕ) (q : B) → and_then r f ≡ Ok q → (a : A) × (r ≡ Ok a) × (f a ≡ Ok q)
then_back (Ok a) f q h = (a, refl, h)
then_back (Err k) f q h = absurd (never k q h)

wanted_back : {A B : Type 0} (k : ℕ) (o : Option A) (f : A → Result B ℕ) (q : B) → wanted k o f ≡ Ok q → (a : A) × (o ≡ Some a) × (f a ≡ Ok q)
wanted_back k (Some a) f q h = (a, refl, h)
wanted_back k None f q h = absurd (never k q h)

and_then_back : {A B : Type 0} (f : A → Option B) (o : Option A) (q : B) → option_and_then f o ≡ Some q → (a : A) × (o ≡ Some a) × (f a ≡ Some q)
and_then_back f (Some a) q h = (a, refl, h)
and_then_back f None q h = absurd (nothing_there q h)

map_back : {A B : Type 0} (f : A → B) (o : Option A) (q : B) → option_map f o ≡ Some q → (a : A) × (o ≡ Some a) × (f a ≡ q)
map_back f (Some a) q h = (a, refl, some_same (f a) q h)
map_back f None q h = absurd (nothing_there q h)

both_back : {A B : Type 0} (o : Option A) (p : Option B) (t : A × B) → both o p ≡ Some t → (o ≡ Some t.0) × (p ≡ Some t.1)
both_back (Some a) (Some b) t h = let e = some_same (a, b) t h in (ap (λ s. Some s.0) e, ap (λ s. Some s.1) e)
both_back (Some a) None t h = absurd (nothing_there t h)
both_back None p t h = absurd (nothing_there t h)

cond_back : {A : Type 0} (b : Bool) (x y : A) → cond b (Some x) None ≡ Some y → (b ≡ true) × (x ≡ y)
cond_back true x y h = (refl, some_same x y h)
cond_back false x y h = absurd (nothing_there y h)

and_back : (b c : Bool) → (b && c) ≡ true → (b ≡ true) × (c ≡ true)
and_back true c h = (refl, h)
and_back false c h = absurd (true≢false (sym h))

or_back : (b c : Bool) → (b || c) ≡ true → (b ≡ true) ⊎ (c ≡ true)
or_back true c h = inl refl
or_back false c h = inr h

begun_back : {B : Type 0} (other : Result B ℕ) (f : List ℕ → Result B ℕ) (o : Option (List ℕ)) (q : B) → begun other f o ≡ Ok q → (other ≡ Ok q) ⊎ ((cs : List ℕ) × (f cs ≡ Ok q))
begun_back other f None q h = inl h
begun_back other f (Some cs) q h = inr (cs, h)

-- ---- costs

cost_fits : (cap : ℕ) (cs : List ℕ) (o : Option ℕ) (c : Cost) → cost_of cap cs o ≡ Some c → IsSmall cap c
cost_fits cap cs (Some n) c h = let t = cond_back (nat_le n (cap + 1)) (Fin n) c h in subst (IsSmall cap) t.1 (inr (leb-true n (cap + 1) t.0))
cost_fits cap cs None c h = let t = cond_back (bytes_eq cs (codes "inf")) Inf c h in subst (IsSmall cap) t.1 (inl refl)

costs_fit : (cap : ℕ) (cs : List ℕ) (t : Cost × Cost) → costs_in cap cs ≡ Some t → IsSmall cap t.0 × IsSmall cap t.1
costs_fit cap cs t h =
    let s = and_then_back (λ t. both (cost_in cap t.0) (cost_in cap t.1)) (split cs) t h in
    let b = both_back (cost_in cap s.0.0) (cost_in cap s.0.1) t s.2 in
    (cost_fits cap s.0.0 (number_in s.0.0) t.0 b.0, cost_fits cap s.0.1 (number_in s.0.1) t.1 b.1)

element_fits : (cap : ℕ) (e : Chars) (x : List ℕ) (t : Cost × Cost) → element_in cap e x ≡ Some t → IsSmall cap t.0 × IsSmall cap t.1
element_fits cap e x t h = let s = and_then_back (costs_in cap) (after (element_head e) x) t h in costs_fit cap s.0 t s.2

state_fits : (cap i : ℕ) (x : List ℕ) (s : StateRow) → state_in cap i x ≡ Some s → IsSmall cap s.p × IsSmall cap s.f
state_fits cap i x s h =
    let m = map_back a_state (option_and_then (costs_in cap) (after (state_head i) x)) s h in
    let t = and_then_back (costs_in cap) (after (state_head i) x) m.0 m.1 in
    let f = costs_fit cap t.0 m.0 t.2 in
    (subst (λ (r : StateRow). IsSmall cap r.p) m.2 f.0, subst (λ (r : StateRow). IsSmall cap r.f) m.2 f.1)

pair_fits : (cap : ℕ) (x : List ℕ) (y : PairRow) → pair_in cap x ≡ Some y → IsSmall cap y.g
pair_fits cap x y h =
    let m = map_back a_pair (option_and_then (λ t. both (numbers_in t.0) (cost_in cap t.1)) (split x)) y h in
    let t = and_then_back (λ t. both (numbers_in t.0) (cost_in cap t.1)) (split x) m.0 m.1 in
    let b = both_back (numbers_in t.0.0) (cost_in cap t.0.1) m.0 t.2 in
    subst (λ (r : PairRow). IsSmall cap r.g) m.2 (cost_fits cap t.0.1 (number_in t.0.1) m.0.1 b.1)

-- ---- lines

next_fits : {A : Type 0} (f : List ℕ → Option A) (k : ℕ) (xs : List Chars) (t : A × Rest) → next f k xs ≡ Ok t → (x : Chars) × (f x ≡ Some t.0)
next_fits f k [] t h = absurd (never k t h)
next_fits f k (x ∷ xs) t h =
    let w = wanted_back k (f x) (λ a. Ok (a, (k + 1, xs))) t h in
    (x, w.1 ∙ ap (λ s. Some s.0) (ok_same (w.0, (k + 1, xs)) t w.2))

abbrev StatesFit : ℕ → ℕ → List StateRow → Type 0
StatesFit cap n ss = (length ss ≡ n) × AllByRecursion (λ s. IsSmall cap s.p) ss × AllByRecursion (λ s. IsSmall cap s.f) ss

states_fit : (cap n i k : ℕ) (xs : List Chars) (t : List StateRow × Rest) → read_states cap n i k xs ≡ Ok t → StatesFit cap n t.0
states_fit cap zero i k xs t h = subst (λ (t : List StateRow × Rest). StatesFit cap zero t.0) (ok_same ([], (k, xs)) t h) (refl, tt, tt)
states_fit cap (suc n) i k xs t h =
    let a = then_back (next (state_in cap i) k xs) (λ t. and_then (read_states cap n (i + 1) t.1.0 t.1.1) (λ u. Ok (t.0 ∷ u.0, u.1))) t h in
    let u = then_back (read_states cap n (i + 1) a.0.1.0 a.0.1.1) (λ u. Ok (a.0.0 ∷ u.0, u.1)) t a.2 in
    let l = next_fits (state_in cap i) k xs a.0 a.1 in
    let s = state_fits cap i l.0 a.0.0 l.1 in
    let more = states_fit cap n (i + 1) a.0.1.0 a.0.1.1 u.0 u.1 in
    subst (λ (t : List StateRow × Rest). StatesFit cap (suc n) t.0) (ok_same (a.0.0 ∷ u.0.0, u.0.1) t u.2)
    (ap suc more.0, (s.0, more.1), (s.1, more.2))

-- ---- pairs

before_on : (x y z : PairRow) → IsBefore x y → IsBefore y z → IsBefore x z
before_on x y z (inl a) (inl b) = inl (omega (arith, a, b))
before_on x y z (inl a) (inr b) = inl (omega (arith, a, b.0))
before_on x y z (inr a) (inl b) = inl (omega (arith, a.0, b))
before_on x y z (inr a) (inr b) = inr (a.0 ∙ b.0, omega (arith, a.1, b.1))

before_all : (x y : PairRow) (zs : List PairRow) → IsBefore x y → AllByRecursion (IsBefore y) zs → AllByRecursion (IsBefore x) zs
before_all x y [] l h = tt
before_all x y (z ∷ zs) l h = (before_on x y z l h.0, before_all x y zs l h.1)

came_back : (last : Option PairRow) (y : PairRow) → comes_after last y ≡ true → Follows last y
came_back None y h = tt
came_back (Some x) y h = elim (or_back (nat_lt x.i y.i) (x.i == y.i && nat_lt x.j y.j) h) [
  | inl l ↦ inl (ltb-true x.i y.i l)
  | inr r ↦ let t = and_back (x.i == y.i) (nat_lt x.j y.j) r in inr (eqb-true x.i y.i t.0, ltb-true x.j y.j t.1)
]

may_back : (cap : ℕ) (a : Content) (b : Option Content) (last : Option PairRow) (y z : PairRow) → may_follow a b last y ≡ Some z → IsSmall cap y.g → IsPair cap a b z × Follows last z
may_back cap a None last y z h s = absurd (nothing_there z h)
may_back cap a (Some b) last y z h s =
    let c = cond_back (nat_lt y.i (states a) && (nat_lt y.j (states b) && comes_after last y)) y z h in
    let t = and_back (nat_lt y.i (states a)) (nat_lt y.j (states b) && comes_after last y) c.0 in
    let u = and_back (nat_lt y.j (states b)) (comes_after last y) t.1 in
    subst (λ (z : PairRow). IsPair cap a (Some b) z × Follows last z) c.1 ((ltb-true y.i (states a) t.0, ltb-true y.j (states b) u.0, s), came_back last y u.1)

abbrev FollowAll : Option PairRow → List PairRow → Type 0
FollowAll None ys = Unit {0}
FollowAll (Some x) ys = AllByRecursion (IsBefore x) ys

follow_none : (last : Option PairRow) → FollowAll last []
follow_none None = tt
follow_none (Some x) = tt

follow_all : (last : Option PairRow) (y : PairRow) (ys : List PairRow) → Follows last y → AllByRecursion (IsBefore y) ys → FollowAll last (y ∷ ys)
follow_all None y ys f h = tt
follow_all (Some x) y ys f h = (f, before_all x y ys f h)

abbrev PairsFit : ℕ → Content → Option Content → Option PairRow → List PairRow → Type 0
PairsFit cap a b last ys = AllByRecursion (IsPair cap a b) ys × AreAscending ys × FollowAll last ys

pairs_fit : (cap : ℕ) (a : Content) (b : Option Content) (xs : List Chars) (last : Option PairRow) (k : ℕ) (t : List PairRow × Rest) → read_pairs cap a b xs last k ≡ Ok t → PairsFit cap a b last t.0
pairs_fit cap a b [] last k t h = subst (λ (t : List PairRow × Rest). PairsFit cap a b last t.0) (ok_same ([], (k, [])) t h) (tt, tt, follow_none last)
pairs_fit cap a b (x ∷ xs) last k t h =
    let F : PairRow → Result (List PairRow × Rest) ℕ = λ y. and_then (read_pairs cap a b xs (Some y) (k + 1)) (λ u. Ok (y ∷ u.0, u.1)) in
    elim (begun_back (Ok ([], (k, x ∷ xs))) (λ cs. wanted k (option_and_then (may_follow a b last) (pair_in cap cs)) F) (after (codes "pair ") x) t h) [
      | inl e ↦ subst (λ (t : List PairRow × Rest). PairsFit cap a b last t.0) (ok_same ([], (k, x ∷ xs)) t e) (tt, tt, follow_none last)
      | inr e ↦
          let w = wanted_back k (option_and_then (may_follow a b last) (pair_in cap e.0)) F t e.1 in
          let y = and_then_back (may_follow a b last) (pair_in cap e.0) w.0 w.1 in
          let m = may_back cap a b last y.0 w.0 y.2 (pair_fits cap e.0 y.0 y.1) in
          let u = then_back (read_pairs cap a b xs (Some w.0) (k + 1)) (λ u. Ok (w.0 ∷ u.0, u.1)) t w.2 in
          let more = pairs_fit cap a b xs (Some w.0) (k + 1) u.0 u.1 in
          subst (λ (t : List PairRow × Rest). PairsFit cap a b last t.0) (ok_same (w.0 ∷ u.0.0, u.0.1) t u.2)
          ((m.0, more.0), (more.2, more.1), follow_all last w.0 u.0.0 m.1 more.2)
    ]

-- ---- rows

row_fits : (cap : ℕ) (second : Declarations) (e : Chars) (a : Content) (k : ℕ) (xs : List Chars) (t : Row × Rest) → read_row cap second e a k xs ≡ Ok t → FitsRow cap second e a t.0
row_fits cap second e a k xs t h =
    let H : Cost × Cost → List StateRow → List PairRow × Rest → Result (Row × Rest) ℕ = λ t u w. Ok (a_row t u w.0, w.1) in
    let G : Cost × Cost → List StateRow × Rest → Result (Row × Rest) ℕ = λ t u. and_then (read_pairs cap a (content_in second e) u.1.1 None u.1.0) (H t u.0) in
    let c = then_back (next (element_in cap e) k xs) (λ t. and_then (read_states cap (states a) 0 t.1.0 t.1.1) (G t.0)) t h in
    let u = then_back (read_states cap (states a) 0 c.0.1.0 c.0.1.1) (G c.0.0) t c.2 in
    let w = then_back (read_pairs cap a (content_in second e) u.0.1.1 None u.0.1.0) (H c.0.0 u.0.0) t u.2 in
    let l = next_fits (element_in cap e) k xs c.0 c.1 in
    let f = element_fits cap e l.0 c.0.0 l.1 in
    let s = states_fit cap (states a) 0 c.0.1.0 c.0.1.1 u.0 u.1 in
    let p = pairs_fit cap a (content_in second e) u.0.1.1 None u.0.1.0 w.0 w.1 in
    let r : FitsRow cap second e a (a_row c.0.0 u.0.0 w.0.0) = record { m = f.0; v = f.1; count = s.0; p = s.1; f = s.2; pairs = p.0; ascending = p.1 } in
    subst (λ (t : Row × Rest). FitsRow cap second e a t.0) (ok_same (a_row c.0.0 u.0.0 w.0.0, w.0.1) t w.2) r

rows_fit : (cap : ℕ) (second : Declarations) (es : List (Chars × Content)) (k : ℕ) (xs : List Chars) (t : List Row × Rest) → read_rows cap second es k xs ≡ Ok t → FitRows cap second es t.0
rows_fit cap second [] k xs t h = subst (λ (t : List Row × Rest). FitRows cap second [] t.0) (ok_same ([], (k, xs)) t h) tt
rows_fit cap second (e ∷ es) k xs t h =
    let a = then_back (read_row cap second e.0 e.1 k xs) (λ t. and_then (read_rows cap second es t.1.0 t.1.1) (λ u. Ok (t.0 ∷ u.0, u.1))) t h in
    let u = then_back (read_rows cap second es a.0.1.0 a.0.1.1) (λ u. Ok (a.0.0 ∷ u.0, u.1)) t a.2 in
    subst (λ (t : List Row × Rest). FitRows cap second (e ∷ es) t.0) (ok_same (a.0.0 ∷ u.0.0, u.0.1) t u.2)
    (row_fits cap second e.0 e.1 k xs a.0 a.1, rows_fit cap second es a.0.1.0 a.0.1.1 u.0 u.1)

-- ---- all of it

there : {A : Type 0} (o : Option A) → is_some o ≡ true → (a : A) × (o ≡ Some a)
there (Some a) h = (a, refl)
there None h = absurd (true≢false (sym h))

abbrev IsHead : Declarations → Chars × ℕ → Type 0
IsHead first t = ((a : Content) × (content_in first t.0 ≡ Some a)) × (t.1 ≤ 100000)

root_fits : (first : Declarations) (root : Chars) (cap : ℕ) (t : Chars × ℕ) → root_in first root cap ≡ Some t → IsHead first t
root_fits first root cap t h =
    let c = cond_back (is_some (content_in first root) && nat_le cap 100000) (root, cap) t h in
    let b = and_back (is_some (content_in first root)) (nat_le cap 100000) c.0 in
    subst (IsHead first) c.1 (there (content_in first root) b.0, leb-true cap 100000 b.1)

head_fits : (first : Declarations) (cs : List ℕ) (t : Chars × ℕ) → head_in first cs ≡ Some t → IsHead first t
head_fits first cs t h =
    let s = and_then_back (λ t. option_and_then (root_in first t.0) (number_in t.1)) (option_and_then split (after (codes "1 ") cs)) t h in
    let n = and_then_back (root_in first s.0.0) (number_in s.0.1) t s.2 in
    root_fits first s.0.0 n.0 t n.2

body_fits : (first second : Declarations) (k : ℕ) (cs : List ℕ) (xs : List Chars) (tables : Tables) → read_body first second k cs xs ≡ Ok tables → Fits first second tables
body_fits first second k cs xs tables h =
    let G : Chars × ℕ → List Row × Rest → Result Tables ℕ = λ t u. and_then (next end_in u.1.0 u.1.1) (λ w. Ok (the_tables t u.0)) in
    let t = wanted_back k (head_in first cs) (λ t. and_then (read_rows t.1 second first.elements (k + 1) xs) (G t)) tables h in
    let u = then_back (read_rows t.0.1 second first.elements (k + 1) xs) (G t.0) tables t.2 in
    let w = then_back (next end_in u.0.1.0 u.0.1.1) (λ w. Ok (the_tables t.0 u.0.0)) tables u.2 in
    let f = head_fits first cs t.0 t.1 in
    let r : Fits first second (the_tables t.0 u.0.0) = record { root = f.0; cap = f.1; rows = rows_fit t.0.1 second first.elements (k + 1) xs u.0 u.1 } in
    subst (Fits first second) (ok_same (the_tables t.0 u.0.0) tables w.2) r

from_fits : (first second : Declarations) (lines : List Chars) (k : ℕ) (tables : Tables) → read_from first second lines k ≡ Ok tables → Fits first second tables
from_fits first second [] k tables h = absurd (never k tables h)
from_fits first second (x ∷ xs) k tables h = elim (begun_back (read_from first second xs (k + 1)) (λ cs. read_body first second k cs xs) (after (codes "certificate ") x) tables h) [
  | inl e ↦ from_fits first second xs (k + 1) tables e
  | inr e ↦ body_fits first second k e.0 xs tables e.1
]

pub read_fits : ReadFits
read_fits first second lines tables h = from_fits first second lines 1 tables h
