-- Certificates: tables as lines, and the tables that lines are read as.
use Rattle.std.specs.Prelude.{◌≡◌, ◌<◌, ◌^◌, ℕ, zero, suc, ◌+◌, ◌==◌, ◌&&◌, ◌||◌, Bool, true, nat_le, nat_lt, List, [], ◌∷◌, ◌++◌, Option, Some, None, is_some, option_and_then, option_map, bytes_eq, codes, if◌then◌else◌, Result, Ok, Err}
use Rattle.std.specs.List.{AllByRecursion}
use Rattle.std.specs.Fmt.{decimal}
use Rattle.std.specs.Str.Parse.{digits_value}
use Rattle.content_models.specs.declared.content.Content.{Content}
use Rattle.content_models.specs.Model.{Chars}
use Rattle.position_automata.specs.Automata.{states}
use Rattle.decl_set.specs.Declarations.{Declarations, content_in}
use Rattle.tree_costs.specs.declared.cost.Cost.{Cost}
use Rattle.tree_costs.specs.declared.cost.Cost.TheVariants.{Fin, Inf}
use Rattle.bound_checker.specs.declared.tables.StateRow.{StateRow}
use Rattle.bound_checker.specs.declared.tables.PairRow.{PairRow}
use Rattle.bound_checker.specs.declared.tables.Row.{Row}
use Rattle.bound_checker.specs.declared.tables.Tables.{Tables}
use Rattle.bound_checker.specs.Tabled.{Fits}

-- ---- writing

-- the one text, a space, the other
abbrev pub spaced : List ℕ → List ℕ → List ℕ
spaced a b = a ++ (0x20 ∷ b)

abbrev pub cost_text : Cost → List ℕ
cost_text (Fin n) = decimal n
cost_text Inf = codes "inf"

abbrev pub costs_text : Cost → Cost → List ℕ
costs_text a b = spaced (cost_text a) (cost_text b)

-- the line of a state, behind `state I `
abbrev pub state_head : ℕ → List ℕ
state_head i = codes "state " ++ spaced (decimal i) []

abbrev pub element_head : Chars → List ℕ
element_head e = codes "element " ++ spaced e []

abbrev pub pair_text : PairRow → List ℕ
pair_text x = spaced (spaced (decimal x.i) (decimal x.j)) (cost_text x.g)

-- the lines of states from a number on, in front of further lines
abbrev pub state_lines : ℕ → List StateRow → List Chars → List Chars
state_lines i [] rest = rest
state_lines i (s ∷ ss) rest = (state_head i ++ costs_text s.p s.f) ∷ state_lines (i + 1) ss rest

abbrev pub pair_lines : List PairRow → List Chars → List Chars
pair_lines [] rest = rest
pair_lines (x ∷ xs) rest = (codes "pair " ++ pair_text x) ∷ pair_lines xs rest

abbrev pub row_lines : List (Chars × Content) → List Row → List Chars → List Chars
row_lines [] rows rest = rest
row_lines (e ∷ es) [] rest = rest
row_lines (e ∷ es) (row ∷ rows) rest =
    (element_head e.0 ++ costs_text row.m row.v) ∷ state_lines 0 row.states (pair_lines row.pairs (row_lines es rows rest))

-- the lines of a certificate, in front of further lines
abbrev pub cert_onto : Declarations → Tables → List Chars → List Chars
cert_onto first tables behind =
    (codes "certificate " ++ (codes "1 " ++ spaced tables.root (decimal tables.cap))) ∷ row_lines first.elements tables.rows (codes "end" ∷ behind)

abbrev pub cert_lines : Declarations → Tables → List Chars
cert_lines first tables = cert_onto first tables []

-- ---- what one line says

-- what stands behind a beginning
abbrev pub after : List ℕ → List ℕ → Option (List ℕ)
after [] cs = Some cs
after (p ∷ ps) [] = None
after (p ∷ ps) (c ∷ cs) = if p == c then after ps cs else None

-- the texts on both sides of the last space
abbrev pub split_on : ℕ → List ℕ → Option (List ℕ × List ℕ) → Option (List ℕ × List ℕ)
split_on c cs (Some t) = Some (c ∷ t.0, t.1)
split_on c cs None = if c == 0x20 then Some ([], cs) else None

abbrev pub split : List ℕ → Option (List ℕ × List ℕ)
split [] = None
split (c ∷ cs) = split_on c cs (split cs)

abbrev pub both : {A B : Type 0} → Option A → Option B → Option (A × B)
both (Some a) (Some b) = Some (a, b)
both a b = None

-- a number without leading zeros
abbrev pub number_in : List ℕ → Option ℕ
number_in cs = if bytes_eq (decimal (digits_value 10 cs)) cs then Some (digits_value 10 cs) else None

abbrev pub cost_of : ℕ → List ℕ → Option ℕ → Option Cost
cost_of cap cs (Some n) = if nat_le n (cap + 1) then Some (Fin n) else None
cost_of cap cs None = if bytes_eq cs (codes "inf") then Some Inf else None

abbrev pub cost_in : ℕ → List ℕ → Option Cost
cost_in cap cs = cost_of cap cs (number_in cs)

abbrev pub costs_in : ℕ → List ℕ → Option (Cost × Cost)
costs_in cap cs = option_and_then (λ t. both (cost_in cap t.0) (cost_in cap t.1)) (split cs)

abbrev pub element_in : ℕ → Chars → List ℕ → Option (Cost × Cost)
element_in cap e line = option_and_then (costs_in cap) (after (element_head e) line)

abbrev pub a_state : Cost × Cost → StateRow
a_state t = record { p = t.0; f = t.1 }

abbrev pub state_in : ℕ → ℕ → List ℕ → Option StateRow
state_in cap i line = option_map a_state (option_and_then (costs_in cap) (after (state_head i) line))

abbrev pub a_pair : (ℕ × ℕ) × Cost → PairRow
a_pair t = record { i = t.0.0; j = t.0.1; g = t.1 }

abbrev pub numbers_in : List ℕ → Option (ℕ × ℕ)
numbers_in cs = option_and_then (λ t. both (number_in t.0) (number_in t.1)) (split cs)

abbrev pub pair_in : ℕ → List ℕ → Option PairRow
pair_in cap cs = option_map a_pair (option_and_then (λ t. both (numbers_in t.0) (cost_in cap t.1)) (split cs))

-- a root that is declared, and a cap
abbrev pub root_in : Declarations → List ℕ → ℕ → Option (Chars × ℕ)
root_in first root cap = if is_some (content_in first root) && nat_le cap 100000 then Some (root, cap) else None

abbrev pub head_in : Declarations → List ℕ → Option (Chars × ℕ)
head_in first cs = option_and_then (λ t. option_and_then (root_in first t.0) (number_in t.1)) (option_and_then split (after (codes "1 ") cs))

abbrev pub end_in : List ℕ → Option Bool
end_in line = if bytes_eq line (codes "end") then Some true else None

-- ---- reading

-- the number of the next line, and the lines from it on
abbrev pub Rest : Type 0
Rest = ℕ × List Chars

abbrev pub and_then : {A B : Type 0} → Result A ℕ → (A → Result B ℕ) → Result B ℕ
and_then (Ok a) f = f a
and_then (Err k) f = Err k

-- what is wanted, or the number of the line where it should stand
abbrev pub wanted : {A B : Type 0} → ℕ → Option A → (A → Result B ℕ) → Result B ℕ
wanted k (Some a) f = f a
wanted k None f = Err k

-- what stands behind a beginning, given on, where the line has it
abbrev pub begun : {B : Type 0} → B → (List ℕ → B) → Option (List ℕ) → B
begun other f None = other
begun other f (Some cs) = f cs

-- the next line, read by a function
abbrev pub next : {A : Type 0} → (List ℕ → Option A) → ℕ → List Chars → Result (A × Rest) ℕ
next f k [] = Err k
next f k (x ∷ xs) = wanted k (f x) (λ a. Ok (a, (k + 1, xs)))

-- as many states, from a number on
abbrev pub read_states : ℕ → ℕ → ℕ → ℕ → List Chars → Result (List StateRow × Rest) ℕ
read_states cap zero i k xs = Ok ([], (k, xs))
read_states cap (suc n) i k xs =
    and_then (next (state_in cap i) k xs) (λ t. and_then (read_states cap n (i + 1) t.1.0 t.1.1) (λ u. Ok (t.0 ∷ u.0, u.1)))

abbrev pub comes_after : Option PairRow → PairRow → Bool
comes_after None y = true
comes_after (Some x) y = nat_lt x.i y.i || (x.i == y.i && nat_lt x.j y.j)

-- whether the pair may stand after the one before it
abbrev pub may_follow : Content → Option Content → Option PairRow → PairRow → Option PairRow
may_follow a None last y = None
may_follow a (Some b) last y = if nat_lt y.i (states a) && (nat_lt y.j (states b) && comes_after last y) then Some y else None

-- the lines that begin with `pair `
abbrev pub read_pairs : ℕ → Content → Option Content → List Chars → Option PairRow → ℕ → Result (List PairRow × Rest) ℕ
read_pairs cap a b [] last k = Ok ([], (k, []))
read_pairs cap a b (x ∷ xs) last k =
    begun (Ok ([], (k, x ∷ xs)))
    (λ cs. wanted k (option_and_then (may_follow a b last) (pair_in cap cs)) (λ y. and_then (read_pairs cap a b xs (Some y) (k + 1)) (λ u. Ok (y ∷ u.0, u.1))))
    (after (codes "pair ") x)

abbrev pub a_row : Cost × Cost → List StateRow → List PairRow → Row
a_row t ss xs = record { m = t.0; v = t.1; states = ss; pairs = xs }

abbrev pub read_row : ℕ → Declarations → Chars → Content → ℕ → List Chars → Result (Row × Rest) ℕ
read_row cap second e a k xs =
    and_then (next (element_in cap e) k xs) (λ t.
    and_then (read_states cap (states a) 0 t.1.0 t.1.1) (λ u.
    and_then (read_pairs cap a (content_in second e) u.1.1 None u.1.0) (λ w. Ok (a_row t.0 u.0 w.0, w.1))))

abbrev pub read_rows : ℕ → Declarations → List (Chars × Content) → ℕ → List Chars → Result (List Row × Rest) ℕ
read_rows cap second [] k xs = Ok ([], (k, xs))
read_rows cap second (e ∷ es) k xs =
    and_then (read_row cap second e.0 e.1 k xs) (λ t. and_then (read_rows cap second es t.1.0 t.1.1) (λ u. Ok (t.0 ∷ u.0, u.1)))

abbrev pub the_tables : Chars × ℕ → List Row → Tables
the_tables t rows = record { root = t.0; cap = t.1; rows = rows }

-- the certificate, from what stands behind `certificate ` in its first line
abbrev pub read_body : Declarations → Declarations → ℕ → List ℕ → List Chars → Result Tables ℕ
read_body first second k cs xs =
    wanted k (head_in first cs) (λ t.
    and_then (read_rows t.1 second first.elements (k + 1) xs) (λ u.
    and_then (next end_in u.1.0 u.1.1) (λ w. Ok (the_tables t u.0))))

-- from the first line that begins with `certificate `
abbrev pub read_from : Declarations → Declarations → List Chars → ℕ → Result Tables ℕ
read_from first second [] k = Err k
read_from first second (x ∷ xs) k = begun (read_from first second xs (k + 1)) (λ cs. read_body first second k cs xs) (after (codes "certificate ") x)

abbrev pub read_lines : Declarations → Declarations → List Chars → Result Tables ℕ
read_lines first second lines = read_from first second lines 1

-- ---- what holds

-- the numbers of a listed pair are of 32 bits
abbrev pub IsShort : PairRow → Type 0
IsShort x = (x.i < 2 ^ 32) × (x.j < 2 ^ 32)

abbrev pub AreShort : Row → Type 0
AreShort row = AllByRecursion IsShort row.pairs

-- What is printed reads back.
abbrev pub PrintedReadsBack : Type 0
PrintedReadsBack = (first second : Declarations) (tables : Tables) → Fits first second tables → AllByRecursion AreShort tables.rows → read_lines first second (cert_lines first tables) ≡ Ok tables

-- a line that begins otherwise
abbrev pub IsBeside : Chars → Type 0
IsBeside x = after (codes "certificate ") x ≡ None

-- So does what is printed between other lines.
abbrev pub PrintedIsFound : Type 0
PrintedIsFound = (first second : Declarations) (tables : Tables) (before behind : List Chars) → Fits first second tables → AllByRecursion AreShort tables.rows → AllByRecursion IsBeside before → read_lines first second (before ++ cert_onto first tables behind) ≡ Ok tables

-- What is read fits.
abbrev pub ReadFits : Type 0
ReadFits = (first second : Declarations) (lines : List Chars) (tables : Tables) → read_lines first second lines ≡ Ok tables → Fits first second tables
