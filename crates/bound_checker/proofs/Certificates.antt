-- Certificates read back.
use Rattle.std.proofs.Common.{◌≡◌, ◌≤◌, ◌<◌, ◌+◌, ◌%◌, ◌^◌, ◌==◌, ◌&&◌, ◌||◌, ℕ, List, [], ◌∷◌, ◌++◌, Bool, true, false, cond, not, Option, Some, None, inl, inr, refl, sym, ap, ◌∙◌, subst, arith, length, true≢false}
use Rattle.std.specs.Prelude.{Result, Ok, Err, option_and_then, option_map, is_some, nat_lt, codes}
use Rattle.std.specs.List.{list_all, AllByRecursion}
use Rattle.std.specs.Fmt.{decimal}
use Rattle.std.specs.Str.Parse.{digits_value}
use Rattle.std.specs.Cmp.Derive.{both_true}
use Rattle.std.proofs.lemmas.Bool.{le-leb, lt-ltb, eq-eqb, ne_eqb}
use Rattle.std.proofs.lemmas.Fmt.{decimal_by_steps, decimal_is_IsNumeral}
use Rattle.std.proofs.lemmas.List.Folds.{list_all-append}
use Rattle.attribute_types.proofs.TextTests.{on_test, bytes_own, bytes_apart}
use Rattle.tree_costs.specs.declared.cost.Cost.{Cost}
use Rattle.tree_costs.specs.declared.cost.Cost.TheVariants.{Fin, Inf}
use Rattle.content_models.specs.declared.content.Content.{Content}
use Rattle.content_models.specs.Model.{Chars}
use Rattle.position_automata.specs.Automata.{states}
use Rattle.decl_set.specs.Declarations.{Declarations, content_in}
use Rattle.bound_checker.specs.declared.tables.StateRow.{StateRow}
use Rattle.bound_checker.specs.declared.tables.PairRow.{PairRow}
use Rattle.bound_checker.specs.declared.tables.Row.{Row}
use Rattle.bound_checker.specs.declared.tables.Tables.{Tables}
use Rattle.tree_costs.specs.Costs.{IsSmall}
use Rattle.bound_checker.specs.Tabled.{IsPair, IsBefore, AreAscending, FitsRow, FitRows, Fits}
use Rattle.bound_checker.specs.Certificates.{Rest, after, split, split_on, spaced, number_in, numbers_in, cost_of, cost_in, cost_text, costs_in, costs_text, both, element_in, element_head, state_in, state_head, a_state, pair_in, pair_text, a_pair, state_lines, pair_lines, row_lines, cert_onto, root_in, head_in, end_in, and_then, wanted, begun, next, read_states, comes_after, may_follow, read_pairs, a_row, read_row, read_rows, read_body, read_from, read_lines, the_tables, IsShort, AreShort, PrintedReadsBack, PrintedIsFound, IsBeside}

abbrev pub is_solid : ℕ → Bool
is_solid c = not (c == 0x20)

pub after_it : (p cs : List ℕ) → after p (p ++ cs) ≡ Some cs
after_it [] cs = refl
after_it (x ∷ p) cs = rw (eq-eqb x x refl) (after_it p cs)

pub solid_split : (cs : List ℕ) → list_all is_solid cs ≡ true → split cs ≡ None
solid_split [] h = refl
solid_split (c ∷ cs) h =
    let P : Bool → Type 0 = λ b. (not b && list_all is_solid cs) ≡ true → cond {A = Option (List ℕ × List ℕ)} b (Some ([], cs)) None ≡ None in
    ap (split_on c cs) (solid_split cs (let Q : Bool → Type 0 = λ b. (b && list_all is_solid cs) ≡ true → list_all is_solid cs ≡ true in on_test Q (is_solid c) (λ t g. g) (λ t g. absurd (true≢false (sym g))) h))
    ∙ on_test P (c == 0x20) (λ t g. absurd (true≢false (sym g))) (λ t g. refl) h

pub split_at : (a b : List ℕ) → list_all is_solid b ≡ true → split (spaced a b) ≡ Some (a, b)
split_at [] b h = ap (split_on 0x20 b) (solid_split b h)
split_at (c ∷ a) b h = ap (split_on c (spaced a b)) (split_at a b h)

digit_solid : (n : ℕ) → n < 10 → is_solid (48 + n) ≡ true
digit_solid n small = ap not (ne_eqb (48 + n) 32 (λ e. omega (arith, e)))

abbrev IsSolid : ℕ → List ℕ → Type 0
IsSolid n ds = list_all is_solid ds ≡ true

pub decimal_solid : (n : ℕ) → n < 2 ^ 64 → list_all is_solid (decimal n) ≡ true
decimal_solid n fits = decimal_by_steps IsSolid
    (λ n small. both_true (digit_solid n small) refl)
    (λ n ds large w. list_all-append is_solid ds ((48 + n % 10) ∷ []) ∙ both_true w (both_true (digit_solid (n % 10) (omega arith)) refl))
    n fits

pub number_back : (n : ℕ) → n < 2 ^ 64 → number_in (decimal n) ≡ Some n
number_back n fits =
    let e : digits_value 10 (decimal n) ≡ n = (decimal_is_IsNumeral n fits).1 in
    rw (e, bytes_own (decimal n)) refl

pub cost_back : (cap n : ℕ) → cap ≤ 100000 → n ≤ cap + 1 → cost_in cap (decimal n) ≡ Some (Fin n)
cost_back cap n low small =
    ap (cost_of cap (decimal n)) (number_back n (omega arith)) ∙ ap (λ b. cond b (Some (Fin n)) None) (le-leb n (cap + 1) small)

digit_other : (n : ℕ) → n < 10 → not ((48 + n) == 105) ≡ true
digit_other n small = ap not (ne_eqb (48 + n) 105 (λ e. omega (arith, e)))

abbrev IsOther : ℕ → List ℕ → Type 0
IsOther n ds = list_all (λ c. not (c == 105)) ds ≡ true

decimal_other : (n : ℕ) → n < 2 ^ 64 → IsOther n (decimal n)
decimal_other n fits = decimal_by_steps IsOther
    (λ n small. both_true (digit_other n small) refl)
    (λ n ds large w. list_all-append (λ c. not (c == 105)) ds ((48 + n % 10) ∷ []) ∙ both_true w (both_true (digit_other (n % 10) (omega arith)) refl))
    n fits

not_inf : (n : ℕ) → n < 2 ^ 64 → decimal n ≡ codes "inf" → ⊥
not_inf n fits e = let t : IsOther n (codes "inf") = subst (IsOther n) e (decimal_other n fits) in absurd (true≢false (sym t))

inf_number : number_in (codes "inf") ≡ None
inf_number = ap (λ b. cond b (Some (digits_value 10 (codes "inf"))) None) (bytes_apart (decimal (digits_value 10 (codes "inf"))) (codes "inf") (not_inf (digits_value 10 (codes "inf")) (omega arith)))

inf_back : (cap : ℕ) → cost_in cap (codes "inf") ≡ Some Inf
inf_back cap = ap (cost_of cap (codes "inf")) inf_number

-- ---- costs in a line

abbrev IsFin : Cost → Type 0
IsFin (Fin n) = Unit {0}
IsFin Inf = ⊥

small_at : (cap n : ℕ) → IsSmall cap (Fin n) → n ≤ cap + 1
small_at cap n (inl e) = absurd (subst IsFin e tt)
small_at cap n (inr h) = h

is_back : (cap : ℕ) (c : Cost) → cap ≤ 100000 → IsSmall cap c → cost_in cap (cost_text c) ≡ Some c
is_back cap (Fin n) low s = cost_back cap n low (small_at cap n s)
is_back cap Inf low s = inf_back cap

solid_cost : (cap : ℕ) (c : Cost) → cap ≤ 100000 → IsSmall cap c → list_all is_solid (cost_text c) ≡ true
solid_cost cap (Fin n) low s = let l = small_at cap n s in decimal_solid n (omega (arith, l, low))
solid_cost cap Inf low s = refl

both_some : {A B : Type 0} (o : Option A) (q : Option B) (a : A) (b : B) → o ≡ Some a → q ≡ Some b → both o q ≡ Some (a, b)
both_some o q a b e f = ap (λ o. both o q) e ∙ ap (both (Some a)) f

costs_back : (cap : ℕ) (a b : Cost) → cap ≤ 100000 → IsSmall cap a → IsSmall cap b → costs_in cap (costs_text a b) ≡ Some (a, b)
costs_back cap a b low s t =
    ap (option_and_then (λ t. both (cost_in cap t.0) (cost_in cap t.1))) (split_at (cost_text a) (cost_text b) (solid_cost cap b low t))
    ∙ both_some (cost_in cap (cost_text a)) (cost_in cap (cost_text b)) a b (is_back cap a low s) (is_back cap b low t)

element_back : (cap : ℕ) (e : Chars) (a b : Cost) → cap ≤ 100000 → IsSmall cap a → IsSmall cap b → element_in cap e (element_head e ++ costs_text a b) ≡ Some (a, b)
element_back cap e a b low s t = ap (option_and_then (costs_in cap)) (after_it (element_head e) (costs_text a b)) ∙ costs_back cap a b low s t

state_back : (cap i : ℕ) (s : StateRow) → cap ≤ 100000 → IsSmall cap s.p → IsSmall cap s.f → state_in cap i (state_head i ++ costs_text s.p s.f) ≡ Some s
state_back cap i s low p f =
    ap (λ o. option_map a_state (option_and_then (costs_in cap) o)) (after_it (state_head i) (costs_text s.p s.f))
    ∙ ap (option_map a_state) (costs_back cap s.p s.f low p f)

numbers_back : (i j : ℕ) → i < 2 ^ 64 → j < 2 ^ 64 → numbers_in (spaced (decimal i) (decimal j)) ≡ Some (i, j)
numbers_back i j l m =
    ap (option_and_then (λ t. both (number_in t.0) (number_in t.1))) (split_at (decimal i) (decimal j) (decimal_solid j m))
    ∙ both_some (number_in (decimal i)) (number_in (decimal j)) i j (number_back i l) (number_back j m)

pair_back : (cap : ℕ) (x : PairRow) → cap ≤ 100000 → IsSmall cap x.g → IsShort x → pair_in cap (pair_text x) ≡ Some x
pair_back cap x low s short =
    ap (λ o. option_map a_pair (option_and_then (λ t. both (numbers_in t.0) (cost_in cap t.1)) o)) (split_at (spaced (decimal x.i) (decimal x.j)) (cost_text x.g) (solid_cost cap x.g low s))
    ∙ ap (option_map a_pair) (both_some (numbers_in (spaced (decimal x.i) (decimal x.j))) (cost_in cap (cost_text x.g)) (x.i, x.j) x.g
    (numbers_back x.i x.j (omega (arith, short.0)) (omega (arith, short.1))) (is_back cap x.g low s))

-- ---- lines

abbrev IsRead : {A : Type 0} → Result (A × Rest) ℕ → A → List Chars → Type 0
IsRead r a rest = (k : ℕ) × (r ≡ Ok (a, (k, rest)))

next_back : {A : Type 0} (f : List ℕ → Option A) (k : ℕ) (x : Chars) (xs : List Chars) (a : A) → f x ≡ Some a → next f k (x ∷ xs) ≡ Ok (a, (k + 1, xs))
next_back f k x xs a e = ap (λ o. wanted k o (λ a. Ok (a, (k + 1, xs)))) e

-- one thing after another
then : {A B : Type 0} (f : A → Result B ℕ) (r : Result A ℕ) (a : A) (q : Result B ℕ) → r ≡ Ok a → f a ≡ q → and_then r f ≡ q
then f r a q e h = ap (λ r. and_then r f) e ∙ h

pub states_back : (cap : ℕ) (ss : List StateRow) (i k : ℕ) (rest : List Chars) → cap ≤ 100000 → AllByRecursion (λ s. IsSmall cap s.p) ss → AllByRecursion (λ s. IsSmall cap s.f) ss → IsRead (read_states cap (length ss) i k (state_lines i ss rest)) ss rest
states_back cap [] i k rest low p f = (k, refl)
states_back cap (s ∷ ss) i k rest low p f =
    let more = states_back cap ss (i + 1) (k + 1) rest low p.1 f.1 in (
      more.0,
      then (λ t. and_then (read_states cap (length ss) (i + 1) t.1.0 t.1.1) (λ u. Ok (t.0 ∷ u.0, u.1)))
          (next (state_in cap i) k (state_lines i (s ∷ ss) rest)) (s, (k + 1, state_lines (i + 1) ss rest)) (Ok (s ∷ ss, (more.0, rest)))
          (next_back (state_in cap i) k (state_head i ++ costs_text s.p s.f) (state_lines (i + 1) ss rest) s (state_back cap i s low p.0 f.0))
          (ap (λ r. and_then r (λ u. Ok (s ∷ u.0, u.1))) more.1),
    )

-- ---- pairs

or_right : (b c : Bool) → c ≡ true → (b || c) ≡ true
or_right true c e = refl
or_right false c e = e

or_left : (b c : Bool) → b ≡ true → (b || c) ≡ true
or_left true c e = refl
or_left false c e = absurd (true≢false (sym e))

abbrev pub Follows : Option PairRow → PairRow → Type 0
Follows None y = Unit {0}
Follows (Some x) y = IsBefore x y

abbrev FollowsFirst : Option PairRow → List PairRow → Type 0
FollowsFirst last [] = Unit {0}
FollowsFirst last (y ∷ ys) = Follows last y

came : (last : Option PairRow) (y : PairRow) → Follows last y → comes_after last y ≡ true
came None y h = refl
came (Some x) y (inl l) = or_left (nat_lt x.i y.i) (x.i == y.i && nat_lt x.j y.j) (lt-ltb x.i y.i l)
came (Some x) y (inr h) = or_right (nat_lt x.i y.i) (x.i == y.i && nat_lt x.j y.j) (both_true (eq-eqb x.i y.i h.0) (lt-ltb x.j y.j h.1))

follows : (cap : ℕ) (a : Content) (b : Option Content) (last : Option PairRow) (y : PairRow) → IsPair cap a b y → Follows last y → may_follow a b last y ≡ Some y
follows cap a None last y h f = elim h [ ]
follows cap a (Some b) last y h f =
    ap (λ t. cond t (Some y) None) (both_true (lt-ltb y.i (states a) h.0) (both_true (lt-ltb y.j (states b) h.1) (came last y f)))

pair_small : (cap : ℕ) (a : Content) (b : Option Content) (y : PairRow) → IsPair cap a b y → IsSmall cap y.g
pair_small cap a None y h = elim h [ ]
pair_small cap a (Some b) y h = h.2

first_before : (x : PairRow) (ys : List PairRow) → AllByRecursion (IsBefore x) ys → FollowsFirst (Some x) ys
first_before x [] h = tt
first_before x (y ∷ ys) h = h.0

-- no pair stands next
abbrev HeadsOff : List Chars → Type 0
HeadsOff [] = Unit {0}
HeadsOff (x ∷ xs) = after (codes "pair ") x ≡ None

pairs_back : (cap : ℕ) (a : Content) (b : Option Content) (xs : List PairRow) (last : Option PairRow) (k : ℕ) (rest : List Chars) → cap ≤ 100000 → AllByRecursion (IsPair cap a b) xs → AllByRecursion IsShort xs → AreAscending xs → FollowsFirst last xs → HeadsOff rest → IsRead (read_pairs cap a b (pair_lines xs rest) last k) xs rest
pairs_back cap a b [] last k [] low fit short up f off = (k, refl)
pairs_back cap a b [] last k (y ∷ ys) low fit short up f off = (
  k,
  ap (begun (Ok ([], (k, y ∷ ys)))
      (λ cs. wanted k (option_and_then (may_follow a b last) (pair_in cap cs)) (λ y. and_then (read_pairs cap a b ys (Some y) (k + 1)) (λ u. Ok (y ∷ u.0, u.1))))) off,
)
pairs_back cap a b (x ∷ xs) last k rest low fit short up f off =
    let more = pairs_back cap a b xs (Some x) (k + 1) rest low fit.1 short.1 up.1 (first_before x xs up.0) off in
    let F : PairRow → Result (List PairRow × Rest) ℕ = λ y. and_then (read_pairs cap a b (pair_lines xs rest) (Some y) (k + 1)) (λ u. Ok (y ∷ u.0, u.1)) in (
      more.0,
      ap (λ o. wanted k (option_and_then (may_follow a b last) o) F) (pair_back cap x low (pair_small cap a b x fit.0) short.0)
          ∙ (ap (λ o. wanted k o F) (follows cap a b last x fit.0 f)
          ∙ ap (λ r. and_then r (λ u. Ok (x ∷ u.0, u.1))) more.1),
    )

-- ---- rows

row_back : (cap : ℕ) (second : Declarations) (e : Chars) (a : Content) (row : Row) (k : ℕ) (rest : List Chars) → cap ≤ 100000 → FitsRow cap second e a row → AreShort row → HeadsOff rest →
    IsRead (read_row cap second e a k ((element_head e ++ costs_text row.m row.v) ∷ state_lines 0 row.states (pair_lines row.pairs rest))) row rest
row_back cap second e a row k rest low fit short off =
    let inner = pair_lines row.pairs rest in
    let outer = state_lines 0 row.states inner in
    let s : IsRead (read_states cap (states a) 0 (k + 1) outer) row.states inner =
    subst (λ n. IsRead (read_states cap n 0 (k + 1) outer) row.states inner) fit.count (states_back cap row.states 0 (k + 1) inner low fit.p fit.f) in
    let w = pairs_back cap a (content_in second e) row.pairs None s.0 rest low fit.pairs short fit.ascending (any_first row.pairs) off in
    let H : Cost × Cost → List StateRow → List PairRow × Rest → Result (Row × Rest) ℕ = λ t u w. Ok (a_row t u w.0, w.1) in
    let G : Cost × Cost → List StateRow × Rest → Result (Row × Rest) ℕ = λ t u. and_then (read_pairs cap a (content_in second e) u.1.1 None u.1.0) (H t u.0) in (
      w.0,
      then (λ t. and_then (read_states cap (states a) 0 t.1.0 t.1.1) (G t.0))
          (next (element_in cap e) k ((element_head e ++ costs_text row.m row.v) ∷ outer)) ((row.m, row.v), (k + 1, outer)) (Ok (row, (w.0, rest)))
          (next_back (element_in cap e) k (element_head e ++ costs_text row.m row.v) outer (row.m, row.v) (element_back cap e row.m row.v low fit.m fit.v))
          (then (G (row.m, row.v)) (read_states cap (states a) 0 (k + 1) outer) (row.states, (s.0, inner)) (Ok (row, (w.0, rest))) s.1
          (ap (λ r. and_then r (H (row.m, row.v) row.states)) w.1)),
    )
  where
    any_first : (ys : List PairRow) → FollowsFirst None ys
    any_first [] = tt
    any_first (y ∷ ys) = tt

heads_off : (es : List (Chars × Content)) (rows : List Row) (rest : List Chars) → HeadsOff rest → HeadsOff (row_lines es rows rest)
heads_off [] rows rest h = h
heads_off (e ∷ es) [] rest h = h
heads_off (e ∷ es) (row ∷ rows) rest h = refl

rows_back : (cap : ℕ) (second : Declarations) (es : List (Chars × Content)) (rows : List Row) (k : ℕ) (rest : List Chars) → cap ≤ 100000 → FitRows cap second es rows → AllByRecursion AreShort rows → HeadsOff rest → IsRead (read_rows cap second es k (row_lines es rows rest)) rows rest
rows_back cap second [] [] k rest low fit short off = (k, refl)
rows_back cap second [] (row ∷ rows) k rest low fit short off = elim fit [ ]
rows_back cap second (e ∷ es) [] k rest low fit short off = elim fit [ ]
rows_back cap second (e ∷ es) (row ∷ rows) k rest low fit short off =
    let later = row_lines es rows rest in
    let one = row_back cap second e.0 e.1 row k later low fit.0 short.0 (heads_off es rows rest off) in
    let more = rows_back cap second es rows one.0 rest low fit.1 short.1 off in (
      more.0,
      then (λ t. and_then (read_rows cap second es t.1.0 t.1.1) (λ u. Ok (t.0 ∷ u.0, u.1)))
          (read_row cap second e.0 e.1 k (row_lines (e ∷ es) (row ∷ rows) rest)) (row, (one.0, later)) (Ok (row ∷ rows, (more.0, rest))) one.1
          (ap (λ r. and_then r (λ u. Ok (row ∷ u.0, u.1))) more.1),
    )

-- ---- all of it

head_back : (first : Declarations) (root : Chars) (cap : ℕ) (a : Content) → content_in first root ≡ Some a → cap ≤ 100000 → head_in first (codes "1 " ++ spaced root (decimal cap)) ≡ Some (root, cap)
head_back first root cap a at low =
    ap (option_and_then (λ t. option_and_then (root_in first t.0) (number_in t.1))) (split_at root (decimal cap) (decimal_solid cap (omega (arith, low))))
    ∙ (ap (option_and_then (root_in first root)) (number_back cap (omega (arith, low)))
    ∙ ap (λ b. cond {A = Option (Chars × ℕ)} b (Some (root, cap)) None) (both_true (ap is_some at) (le-leb cap 100000 low)))

body_back : (first second : Declarations) (tables : Tables) (behind : List Chars) (k : ℕ) → Fits first second tables → AllByRecursion AreShort tables.rows → read_from first second (cert_onto first tables behind) k ≡ Ok tables
body_back first second tables behind k fit short =
    let last = codes "end" ∷ behind in
    let lines = row_lines first.elements tables.rows last in
    let rows = rows_back tables.cap second first.elements tables.rows (k + 1) last fit.cap fit.rows short refl in
    let G : Chars × ℕ → List Row × Rest → Result Tables ℕ = λ t u. and_then (next end_in u.1.0 u.1.1) (λ w. Ok (the_tables t u.0)) in
    ap (λ o. wanted k o (λ t. and_then (read_rows t.1 second first.elements (k + 1) lines) (G t))) (head_back first tables.root tables.cap fit.root.0 fit.root.1 fit.cap)
    ∙ ap (λ r. and_then r (G (tables.root, tables.cap))) rows.1

found_back : (first second : Declarations) (tables : Tables) (behind before : List Chars) (k : ℕ) → Fits first second tables → AllByRecursion AreShort tables.rows → AllByRecursion IsBeside before → read_from first second (before ++ cert_onto first tables behind) k ≡ Ok tables
found_back first second tables behind [] k fit short off = body_back first second tables behind k fit short
found_back first second tables behind (x ∷ xs) k fit short off =
    let later = xs ++ cert_onto first tables behind in
    ap (begun (read_from first second later (k + 1)) (λ cs. read_body first second k cs later)) off.0 ∙ found_back first second tables behind xs (k + 1) fit short off.1

pub printed_back : PrintedReadsBack
printed_back first second tables fit short = body_back first second tables [] 1 fit short

pub printed_found : PrintedIsFound
printed_found first second tables before behind fit short off = found_back first second tables behind before 1 fit short off

-- ---- numbers of lines

no_lines : (first second : Declarations) → read_lines first second [] ≡ Err 1
no_lines first second = refl

no_certificate : (first second : Declarations) → read_lines first second (codes "ok" ∷ codes "certificat" ∷ []) ≡ Err 3
no_certificate first second = refl

other_version : (first second : Declarations) → read_lines first second (codes "ok" ∷ codes "certificate 2 a 0" ∷ codes "end" ∷ []) ≡ Err 2
other_version first second = refl
