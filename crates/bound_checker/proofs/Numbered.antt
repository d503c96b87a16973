-- The line that is not as needed is one of the lines, or missing behind the last.
use Rattle.std.proofs.Common.{◌≡◌, ◌≤◌, ◌+◌, ℕ, zero, suc, List, [], ◌∷◌, Option, Some, None, refl, ◌∙◌, subst, arith, length}
use Rattle.std.specs.Prelude.{Result, Ok, Err, option_and_then, codes}
use Rattle.content_models.specs.declared.content.Content.{Content}
use Rattle.content_models.specs.Model.{Chars}
use Rattle.position_automata.specs.Automata.{states}
use Rattle.tree_costs.specs.declared.cost.Cost.{Cost}
use Rattle.decl_set.specs.Declarations.{Declarations, content_in}
use Rattle.bound_checker.specs.declared.tables.StateRow.{StateRow}
use Rattle.bound_checker.specs.declared.tables.PairRow.{PairRow}
use Rattle.bound_checker.specs.declared.tables.Row.{Row}
use Rattle.bound_checker.specs.declared.tables.Tables.{Tables}
use Rattle.bound_checker.specs.Certificates.{Rest, after, and_then, wanted, begun, next, element_in, state_in, end_in, head_in, read_states, may_follow, pair_in, read_pairs, a_row, read_row, read_rows, read_body, read_from, the_tables}
use Rattle.bound_checker.specs.Reads.{FaultIsLine}

-- what is read leaves the last of the lines, or a fault is at one of them or behind the last
abbrev Within : {A : Type 0} → ℕ → List Chars → Result (A × Rest) ℕ → Type 0
Within k xs (Ok t) = (k ≤ t.1.0) × (t.1.0 + length t.1.1 ≡ k + length xs)
Within k xs (Err j) = (k ≤ j) × (j ≤ k + length xs)

abbrev FaultWithin : {A : Type 0} → ℕ → List Chars → Result A ℕ → Type 0
FaultWithin k xs (Ok a) = Unit {0}
FaultWithin k xs (Err j) = (k ≤ j) × (j ≤ k + length xs)

earlier : {A : Type 0} (k n : ℕ) (xs ys : List Chars) (r : Result (A × Rest) ℕ) → k ≤ n → n + length ys ≡ k + length xs → Within n ys r → Within k xs r
earlier k n xs ys (Ok t) l e h = (omega (arith, l, h.0), h.1 ∙ e)
earlier k n xs ys (Err j) l e h = (omega (arith, l, h.0), omega (arith, e, h.1))

fault_earlier : {A : Type 0} (k n : ℕ) (xs ys : List Chars) (r : Result A ℕ) → k ≤ n → n + length ys ≡ k + length xs → FaultWithin n ys r → FaultWithin k xs r
fault_earlier k n xs ys (Ok a) l e h = tt
fault_earlier k n xs ys (Err j) l e h = (omega (arith, l, h.0), omega (arith, e, h.1))

within_then : {A B : Type 0} (k : ℕ) (xs : List Chars) (r : Result (A × Rest) ℕ) (f : A × Rest → Result (B × Rest) ℕ) → Within k xs r
    → ((t : A × Rest) → Within t.1.0 t.1.1 (f t)) → Within k xs (and_then r f)
within_then k xs (Ok t) f h g = earlier k t.1.0 xs t.1.1 (f t) h.0 h.1 (g t)
within_then k xs (Err j) f h g = h

fault_then : {A B : Type 0} (k : ℕ) (xs : List Chars) (r : Result (A × Rest) ℕ) (f : A × Rest → Result B ℕ) → Within k xs r
    → ((t : A × Rest) → FaultWithin t.1.0 t.1.1 (f t)) → FaultWithin k xs (and_then r f)
fault_then k xs (Ok t) f h g = fault_earlier k t.1.0 xs t.1.1 (f t) h.0 h.1 (g t)
fault_then k xs (Err j) f h g = h

same_left : {A : Type 0} (a : A) (u : Rest) → Within u.0 u.1 (Ok (a, u))
same_left a u = (omega arith, refl)

within_next : {A : Type 0} (f : List ℕ → Option A) (k : ℕ) (xs : List Chars) → Within k xs (next f k xs)
within_next {A = A} f k [] = (omega arith, omega arith)
within_next {A = A} f k (x ∷ xs) = by (f x)
  where
    by : (o : Option A) → Within k (x ∷ xs) (wanted k o (λ a. Ok (a, (k + 1, xs))))
    by None = (omega arith, omega arith)
    by (Some a) = (omega arith, omega arith)

within_states : (cap n i k : ℕ) (xs : List Chars) → Within k xs (read_states cap n i k xs)
within_states cap zero i k xs = (omega arith, refl)
within_states cap (suc n) i k xs =
    within_then k xs (next (state_in cap i) k xs) (λ t. and_then (read_states cap n (i + 1) t.1.0 t.1.1) (λ u. Ok (t.0 ∷ u.0, u.1))) (within_next (state_in cap i) k xs)
    (λ t. within_then t.1.0 t.1.1 (read_states cap n (i + 1) t.1.0 t.1.1) (λ u. Ok (t.0 ∷ u.0, u.1)) (within_states cap n (i + 1) t.1.0 t.1.1) (λ u. same_left (t.0 ∷ u.0) u.1))

begun_by : {B : Type 0} (P : B → Type 0) (other : B) (f : List ℕ → B) (o : Option (List ℕ)) → P other → ((cs : List ℕ) → P (f cs)) → P (begun other f o)
begun_by P other f None h g = h
begun_by P other f (Some cs) h g = g cs

wanted_by : {A B : Type 0} (P : Result B ℕ → Type 0) (k : ℕ) (o : Option A) (f : A → Result B ℕ) → P (Err k) → ((a : A) → P (f a)) → P (wanted k o f)
wanted_by P k None f h g = h
wanted_by P k (Some a) f h g = g a

within_pairs : (cap : ℕ) (a : Content) (b : Option Content) (xs : List Chars) (last : Option PairRow) (k : ℕ) → Within k xs (read_pairs cap a b xs last k)
within_pairs cap a b [] last k = (omega arith, refl)
within_pairs cap a b (x ∷ xs) last k =
    let P : Result (List PairRow × Rest) ℕ → Type 0 = Within k (x ∷ xs) in
    let F : PairRow → Result (List PairRow × Rest) ℕ = λ y. and_then (read_pairs cap a b xs (Some y) (k + 1)) (λ u. Ok (y ∷ u.0, u.1)) in
    begun_by P (Ok ([], (k, x ∷ xs))) (λ cs. wanted k (option_and_then (may_follow a b last) (pair_in cap cs)) F) (after (codes "pair ") x)
    (omega arith, refl)
    (λ cs. wanted_by P k (option_and_then (may_follow a b last) (pair_in cap cs)) F (omega arith, omega arith)
    (λ y. earlier k (k + 1) (x ∷ xs) xs (F y) (omega arith) (omega arith)
    (within_then (k + 1) xs (read_pairs cap a b xs (Some y) (k + 1)) (λ u. Ok (y ∷ u.0, u.1)) (within_pairs cap a b xs (Some y) (k + 1)) (λ u. same_left (y ∷ u.0) u.1))))

within_row : (cap : ℕ) (second : Declarations) (e : Chars) (a : Content) (k : ℕ) (xs : List Chars) → Within k xs (read_row cap second e a k xs)
within_row cap second e a k xs =
    let H : Cost × Cost → List StateRow → List PairRow × Rest → Result (Row × Rest) ℕ = λ t u w. Ok (a_row t u w.0, w.1) in
    let G : Cost × Cost → List StateRow × Rest → Result (Row × Rest) ℕ = λ t u. and_then (read_pairs cap a (content_in second e) u.1.1 None u.1.0) (H t u.0) in
    within_then k xs (next (element_in cap e) k xs) (λ t. and_then (read_states cap (states a) 0 t.1.0 t.1.1) (G t.0)) (within_next (element_in cap e) k xs)
    (λ t. within_then t.1.0 t.1.1 (read_states cap (states a) 0 t.1.0 t.1.1) (G t.0) (within_states cap (states a) 0 t.1.0 t.1.1)
    (λ u. within_then u.1.0 u.1.1 (read_pairs cap a (content_in second e) u.1.1 None u.1.0) (H t.0 u.0) (within_pairs cap a (content_in second e) u.1.1 None u.1.0)
    (λ w. same_left (a_row t.0 u.0 w.0) w.1)))

within_rows : (cap : ℕ) (second : Declarations) (es : List (Chars × Content)) (k : ℕ) (xs : List Chars) → Within k xs (read_rows cap second es k xs)
within_rows cap second [] k xs = (omega arith, refl)
within_rows cap second (e ∷ es) k xs =
    within_then k xs (read_row cap second e.0 e.1 k xs) (λ t. and_then (read_rows cap second es t.1.0 t.1.1) (λ u. Ok (t.0 ∷ u.0, u.1))) (within_row cap second e.0 e.1 k xs)
    (λ t. within_then t.1.0 t.1.1 (read_rows cap second es t.1.0 t.1.1) (λ u. Ok (t.0 ∷ u.0, u.1)) (within_rows cap second es t.1.0 t.1.1) (λ u. same_left (t.0 ∷ u.0) u.1))

body_within : (first second : Declarations) (k : ℕ) (cs : List ℕ) (x : Chars) (xs : List Chars) → FaultWithin k (x ∷ xs) (read_body first second k cs xs)
body_within first second k cs x xs =
    let G : Chars × ℕ → List Row × Rest → Result Tables ℕ = λ t u. and_then (next end_in u.1.0 u.1.1) (λ w. Ok (the_tables t u.0)) in
    let F : Chars × ℕ → Result Tables ℕ = λ t. and_then (read_rows t.1 second first.elements (k + 1) xs) (G t) in
    wanted_by (FaultWithin k (x ∷ xs)) k (head_in first cs) F (omega arith, omega arith)
    (λ t. fault_earlier k (k + 1) (x ∷ xs) xs (F t) (omega arith) (omega arith)
    (fault_then (k + 1) xs (read_rows t.1 second first.elements (k + 1) xs) (G t) (within_rows t.1 second first.elements (k + 1) xs)
    (λ u. fault_then u.1.0 u.1.1 (next end_in u.1.0 u.1.1) (λ w. Ok (the_tables t u.0)) (within_next end_in u.1.0 u.1.1) (λ w. tt))))

from_within : (first second : Declarations) (xs : List Chars) (k : ℕ) → FaultWithin k xs (read_from first second xs k)
from_within first second [] k = (omega arith, omega arith)
from_within first second (x ∷ xs) k =
    begun_by (FaultWithin k (x ∷ xs)) (read_from first second xs (k + 1)) (λ cs. read_body first second k cs xs) (after (codes "certificate ") x)
    (fault_earlier k (k + 1) (x ∷ xs) xs (read_from first second xs (k + 1)) (omega arith) (omega arith) (from_within first second xs (k + 1)))
    (λ cs. body_within first second k cs x xs)

pub fault_is_line : FaultIsLine
fault_is_line first second lines k h =
    let fault : Result Tables ℕ = Err k in
    let t : FaultWithin 1 lines fault = subst (FaultWithin 1 lines) h (from_within first second lines 1) in
    (t.0, omega (arith, t.1))
