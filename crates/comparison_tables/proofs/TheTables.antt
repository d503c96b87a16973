-- Exact tables are one, are accepted, and can be printed.
use Rattle.std.proofs.Common.{◌≡◌, ◌≤◌, ℕ, suc, List, [], ◌∷◌, length, map, find, Option, Some, None, slice_get, refl, sym, ap, ◌∙◌, subst, arith}
use Rattle.std.specs.Prelude.{option_and_then, option_map}
use Rattle.std.specs.List.{AllByRecursion}
use Rattle.std.specs.Option.{option_map_or}
use Rattle.std.proofs.lemmas.Option.{slice_get-map}
use Rattle.content_models.specs.declared.content.Content.{Content}
use Rattle.content_models.specs.Model.{Chars}
use Rattle.position_automata.specs.Automata.{states}
use Rattle.decl_set.specs.Asked.{IsKept, IsElement}
use Rattle.decl_set.specs.Declarations.{Declarations, Element, content_in}
use Rattle.tree_costs.specs.declared.cost.Cost.{Cost}
use Rattle.tree_costs.specs.declared.cost.Cost.TheVariants.{Fin, Inf}
use Rattle.tree_costs.proofs.Places.{has_place, is_at}
use Rattle.tagset_report.proofs.Once.{listed_once}
use Rattle.bound_checker.specs.declared.tables.StateRow.{StateRow}
use Rattle.bound_checker.specs.declared.tables.PairRow.{PairRow}
use Rattle.bound_checker.specs.declared.tables.Row.{Row}
use Rattle.bound_checker.specs.declared.tables.Tables.{Tables}
use Rattle.bound_checker.specs.Certificates.{IsShort, AreShort}
use Rattle.bound_checker.specs.Kinds.{Feasible}
use Rattle.bound_checker.specs.Tabled.{costs_of, row_of, states_of, is_pair, IsPair, AreAscending, FitsRow, FitRows}
use Rattle.bound_checker.proofs.Halves.{some_found}
use Rattle.bound_checker.proofs.Rows.{fits_at, row_is}
use Rattle.bound_checker.proofs.Tests.{none_is_broken}
use Rattle.exact_tables.specs.Laws.{Agree}
use Rattle.exact_tables.proofs.Closing.{exact_is_feasible}
use Rattle.exact_tables.proofs.Unique.{one_exact}
use Rattle.comparison_tables.specs.Exact.{OneTables, TablesAreAccepted, TablesAreShort}
use Rattle.comparison_tables.specs.Outcome.{ListPairs, AreExactTables}
use Rattle.comparison_tables.specs.Sides.{ArePairsOf}
use Rattle.comparison_tables.proofs.Bounds.{few_states, few_at}
use Rattle.comparison_tables.proofs.Knowing.{pair_listed}

-- ---- lists by their places

same_state : (s z : StateRow) → s.p ≡ z.p → s.f ≡ z.f → s ≡ z
same_state s z p f = ap (λ (c : Cost). record { p = c; f = s.f }) p ∙ ap (λ (c : Cost). record { p = z.p; f = c }) f

same_states : (ss zs : List StateRow) → length ss ≡ length zs
    → ((i : ℕ) → option_map_or (λ (s : StateRow). s.p) (slice_get ss i) Inf ≡ option_map_or (λ (s : StateRow). s.p) (slice_get zs i) Inf)
    → ((i : ℕ) → option_map_or (λ (s : StateRow). s.f) (slice_get ss i) Inf ≡ option_map_or (λ (s : StateRow). s.f) (slice_get zs i) Inf) → ss ≡ zs
same_states [] [] l p f = refl
same_states [] (z ∷ zs) l p f = absurd (omega arith)
same_states (s ∷ ss) [] l p f = absurd (omega arith)
same_states (s ∷ ss) (z ∷ zs) l p f =
    ap (λ (y : StateRow). y ∷ ss) (same_state s z (p 0) (f 0))
    ∙ ap (λ (ys : List StateRow). z ∷ ys) (same_states ss zs (omega arith) (λ i. p (suc i)) (λ i. f (suc i)))

same_pair : (x y : PairRow) → states_of x ≡ states_of y → x.g ≡ y.g → x ≡ y
same_pair x y s g = ap (λ (p : ℕ × ℕ). record { i = p.0; j = p.1; g = x.g }) s ∙ ap (λ (c : Cost). record { i = y.i; j = y.j; g = c }) g

same_pairs : (xs ys : List PairRow) → map states_of xs ≡ map states_of ys
    → ((k : ℕ) (x y : PairRow) → slice_get xs k ≡ Some x → slice_get ys k ≡ Some y → states_of x ≡ states_of y → x.g ≡ y.g) → xs ≡ ys
same_pairs [] [] e h = refl
same_pairs [] (y ∷ ys) e h = cc
same_pairs (x ∷ xs) [] e h = cc
same_pairs (x ∷ xs) (y ∷ ys) e h =
    let s : states_of x ≡ states_of y = cc in
    let later : map states_of xs ≡ map states_of ys = cc in
    ap (λ (z : PairRow). z ∷ xs) (same_pair x y s (h 0 x y refl refl s)) ∙ ap (λ (zs : List PairRow). y ∷ zs) (same_pairs xs ys later (λ k. h (suc k)))

same_row : (r q : Row) → r.m ≡ q.m → r.v ≡ q.v → r.states ≡ q.states → r.pairs ≡ q.pairs → r ≡ q
same_row r q m v s p =
    ap (λ (c : Cost). record { m = c; v = r.v; states = r.states; pairs = r.pairs }) m
    ∙ ap (λ (c : Cost). record { m = q.m; v = c; states = r.states; pairs = r.pairs }) v
    ∙ ap (λ (z : List StateRow). record { m = q.m; v = q.v; states = z; pairs = r.pairs }) s
    ∙ ap (λ (z : List PairRow). record { m = q.m; v = q.v; states = q.states; pairs = z }) p

-- ---- pairs

-- the pairs of a row are one list of states
listed_same : (first : Declarations) (a : Content) (o : Option Content) (ps qs : List (ℕ × ℕ)) → ArePairsOf first a o ps → ArePairsOf first a o qs → ps ≡ qs
listed_same first a None ps qs h g = h ∙ sym g
listed_same first a (Some b) ps qs h g = listed_once first a b ps qs h g

mapped_or : (v : Cost) (o : Option PairRow) → Some v ≡ option_map (λ (x : PairRow). x.g) o → option_map_or (λ (x : PairRow). x.g) o (Fin 0) ≡ v
mapped_or v None h = cc
mapped_or v (Some x) h = let same : v ≡ x.g = cc in sym same

-- a pair of a row is found by its states
pair_cost : (pairs : List PairRow) (k : ℕ) (x : PairRow) → AreAscending pairs → slice_get pairs k ≡ Some x
    → option_map_or (λ (y : PairRow). y.g) (find (is_pair x.i x.j) pairs) (Fin 0) ≡ x.g
pair_cost pairs k x a q =
    mapped_or x.g (find (is_pair x.i x.j) pairs) (some_found pairs x.i x.j k x a q refl)

-- ---- one table

module _ (first second : Declarations) where
  same_rows : (es : List Element) (rs qs : List Row) → ListPairs first second es rs → ListPairs first second es qs
      → ((n : ℕ) (e : Element) (r q : Row) → slice_get es n ≡ Some e → slice_get rs n ≡ Some r → slice_get qs n ≡ Some q
      → ArePairsOf first e.1 (content_in second e.0) (map states_of r.pairs) → ArePairsOf first e.1 (content_in second e.0) (map states_of q.pairs) → r ≡ q)
      → rs ≡ qs
  same_rows [] [] [] f g h = refl
  same_rows [] (r ∷ rs) qs f g h = elim f [ ]
  same_rows [] [] (q ∷ qs) f g h = elim g [ ]
  same_rows (e ∷ es) [] qs f g h = elim f [ ]
  same_rows (e ∷ es) (r ∷ rs) [] f g h = elim g [ ]
  same_rows (e ∷ es) (r ∷ rs) (q ∷ qs) f g h =
      ap (λ (z : Row). z ∷ rs) (h 0 e r q refl refl refl f.0 g.0) ∙ ap (λ (zs : List Row). q ∷ zs) (same_rows es rs qs f.1 g.1 (λ n. h (suc n)))

  module _ (root : Chars) (cap : ℕ) (t u : Tables) (kept : IsKept first) (T : AreExactTables first second root cap t) (U : AreExactTables first second root cap u) where
    agree : Agree first second (costs_of first t) (costs_of first u)
    agree = one_exact first second cap (costs_of first t) (costs_of first u) T.exact U.exact

    -- the rows of an element
    module _ (n : ℕ) (e : Element) (r q : Row) (h : slice_get first.elements n ≡ Some e) (hr : slice_get t.rows n ≡ Some r) (hq : slice_get u.rows n ≡ Some q)
        (lr : ArePairsOf first e.1 (content_in second e.0) (map states_of r.pairs)) (lq : ArePairsOf first e.1 (content_in second e.0) (map states_of q.pairs)) where
      r_is : row_of first t e.0 ≡ Some r
      r_is = row_is first t n e r kept h hr

      q_is : row_of first u e.0 ≡ Some q
      q_is = row_is first u n e q kept h hq

      r_fits : FitsRow t.cap second e.0 e.1 r
      r_fits = fits_at first second t n e r T.fits h hr

      q_fits : FitsRow u.cap second e.0 e.1 q
      q_fits = fits_at first second u n e q U.fits h hq

      declared : content_in first e.0 ≡ Some e.1
      declared = (is_at first kept n e h).0

      -- what both rows say, where the costs agree on it
      both_say : {A : Type 0} (f : Option Row → A) → f (row_of first t e.0) ≡ f (row_of first u e.0) → f (Some r) ≡ f (Some q)
      both_say f k = sym (ap f r_is) ∙ k ∙ ap f q_is

      listed_at : (k : ℕ) (x : PairRow) → slice_get r.pairs k ≡ Some x → slice_get (map states_of r.pairs) k ≡ Some (states_of x)
      listed_at k x at = slice_get-map states_of r.pairs k ∙ ap (option_map states_of) at

      -- G of a listed pair is one cost
      g_same : (o : Option Content) (k : ℕ) (x : PairRow) → content_in second e.0 ≡ o → slice_get r.pairs k ≡ Some x
          → (costs_of first t).g e.0 x.i x.j ≡ (costs_of first u).g e.0 x.i x.j
      g_same None k x w at =
          let none : map states_of r.pairs ≡ [] = subst (λ (z : Option Content). ArePairsOf first e.1 z (map states_of r.pairs)) w lr in
          let off : None ≡ Some (states_of x) = sym (ap (λ (z : List (ℕ × ℕ)). slice_get z k) none) ∙ listed_at k x at in
          cc
      g_same (Some b) k x w at =
          agree.g e.0 e.1 b x.i x.j declared w (pair_listed first e.1 (content_in second e.0) (map states_of r.pairs) k x.i x.j lr (listed_at k x at) b w)

      g_at : (k : ℕ) (x y : PairRow) → slice_get r.pairs k ≡ Some x → slice_get q.pairs k ≡ Some y → states_of x ≡ states_of y → x.g ≡ y.g
      g_at k x y hx hy s =
          sym (pair_cost r.pairs k x r_fits.ascending hx)
          ∙ both_say (λ o. option_map_or (λ (z : PairRow). z.g) (option_and_then (λ (row : Row). find (is_pair x.i x.j) row.pairs) o) (Fin 0)) (g_same (content_in second e.0) k x refl hx)
          ∙ ap (λ (z : ℕ × ℕ). option_map_or (λ (y : PairRow). y.g) (find (is_pair z.0 z.1) q.pairs) (Fin 0)) s
          ∙ pair_cost q.pairs k y q_fits.ascending hy

      row_same : r ≡ q
      row_same = same_row r q
          (both_say (λ o. option_map_or (λ (row : Row). row.m) o Inf) (agree.m e.0))
          (both_say (λ o. option_map_or (λ (row : Row). row.v) o Inf) (agree.v e.0))
          (same_states r.states q.states (r_fits.count ∙ sym q_fits.count)
          (λ i. both_say (λ o. option_map_or (λ (s : StateRow). s.p) (option_and_then (λ (row : Row). slice_get row.states i) o) Inf) (agree.p e.0 e.1 i declared))
          (λ i. both_say (λ o. option_map_or (λ (s : StateRow). s.f) (option_and_then (λ (row : Row). slice_get row.states i) o) Inf) (agree.f e.0 e.1 i declared)))
          (same_pairs r.pairs q.pairs (listed_same first e.1 (content_in second e.0) (map states_of r.pairs) (map states_of q.pairs) lr lq) g_at)

    tables_same : t ≡ u
    tables_same =
        ap (λ (z : Chars). record { root = z; cap = t.cap; rows = t.rows }) (T.root_is ∙ sym U.root_is)
        ∙ ap (λ (z : ℕ). record { root = u.root; cap = z; rows = t.rows }) (T.cap_is ∙ sym U.cap_is)
        ∙ ap (λ (z : List Row). record { root = u.root; cap = u.cap; rows = z }) (same_rows first.elements t.rows u.rows T.pairs U.pairs row_same)

pub one_tables : OneTables
one_tables first second root cap t u kept T U = tables_same first second root cap t u kept T U

-- ---- accepted

pub tables_are_accepted : TablesAreAccepted
tables_are_accepted first second root cap t kf ks T =
    (none_is_broken first second t kf ks).1
    (subst (λ (n : ℕ). Feasible first second n (costs_of first t)) (sym T.cap_is) (exact_is_feasible first second cap (costs_of first t) kf ks T.exact))

-- ---- printable

-- what a set declares has few states
few_declared : (set : Declarations) (e : Chars) (b : Content) → IsKept set → content_in set e ≡ Some b → states b ≤ 1025
few_declared set e b k h = let t = has_place set e b h in few_at set k t.0 e b t.2

pairs_short : (cap : ℕ) (a : Content) (o : Option Content) (pairs : List PairRow) → states a ≤ 1025 → ((b : Content) → o ≡ Some b → states b ≤ 1025)
    → AllByRecursion (IsPair cap a o) pairs → AllByRecursion IsShort pairs
pairs_short cap a o [] l m h = tt
pairs_short cap a None (x ∷ pairs) l m h = elim h.0 [ ]
pairs_short cap a (Some b) (x ∷ pairs) l m h = ((omega (arith, l, h.0.0), omega (arith, m b refl, h.0.1)), pairs_short cap a (Some b) pairs l m h.1)

rows_short : (cap : ℕ) (second : Declarations) (es : List Element) (rows : List Row) → IsKept second → AllByRecursion IsElement es → FitRows cap second es rows
    → AllByRecursion AreShort rows
rows_short cap second [] [] k a f = tt
rows_short cap second [] (row ∷ rows) k a f = elim f [ ]
rows_short cap second (e ∷ es) [] k a f = tt
rows_short cap second (e ∷ es) (row ∷ rows) k a f = (
  pairs_short cap e.1 (content_in second e.0) row.pairs (few_states e.1 a.0.proper) (λ b h. few_declared second e.0 b k h) f.0.pairs,
  rows_short cap second es rows k a.1 f.1,
)

pub tables_are_short : TablesAreShort
tables_are_short first second root cap t kf ks T = rows_short t.cap second first.elements t.rows ks kf.elements_are (T.fits).rows
