-- What is read so far, and what is left to read.
use Rattle.std.proofs.Common.{◌≡◌, ◌≤◌, ◌<◌, ◌+◌, ◌-◌, ℕ, suc, List, [], ◌∷◌, ◌++◌, Option, Some, None, refl, sym, ap, ◌∙◌, arith, append_assoc, append-nil, drop, length, slice_get}
use Rattle.std.specs.Prelude.{Result, Ok, Err}
use Rattle.content_models.specs.Model.{Chars}
use Rattle.attlist_merge.proofs.Turns.{drop_step, drop_all}
use Rattle.decl_set.specs.Declarations.{Declarations, Element}
use Rattle.bound_checker.specs.declared.tables.Row.{Row}
use Rattle.bound_checker.specs.declared.fault.CertFault.{CertFault}
use Rattle.bound_checker.specs.declared.fault.CertFault.TheVariants.{Malformed, NoMemory}
use Rattle.bound_checker.specs.declared.tables.StateRow.{StateRow}
use Rattle.bound_checker.specs.Certificates.{Rest, and_then, next, state_in, read_states, read_rows}
use Rattle.bound_checker.specs.Left.{Gives, read_row_at}
use Rattle.bound_checker.proofs.Putting.{past}

-- more behind what is read
abbrev pub glued : {X : Type 0} → List X → Result (List X × Rest) ℕ → Result (List X × Rest) ℕ
glued done r = and_then r (λ u. Ok (done ++ u.0, u.1))

pub glue_none : {X : Type 0} (r : Result (List X × Rest) ℕ) → r ≡ glued [] r
glue_none (Ok u) = refl
glue_none (Err k) = refl

pub glue_step : {X : Type 0} (done : List X) (x : X) (r : Result (List X × Rest) ℕ) → glued done (and_then r (λ u. Ok (x ∷ u.0, u.1))) ≡ glued (done ++ x ∷ []) r
glue_step done x (Ok u) = ap (λ ys. Ok (ys, u.1)) (sym (append_assoc done (x ∷ []) u.0))
glue_step done x (Err k) = refl

pub glue_end : {X : Type 0} (whole : Result (List X × Rest) ℕ) (done : List X) (left : Rest) → whole ≡ glued done (Ok ([], left)) → whole ≡ Ok (done, left)
glue_end whole done left h = h ∙ ap (λ ys. Ok (ys, left)) (append-nil done)

-- a fault of a part is one of the whole
pub faulty : {A B : Type 0} (part : Result (A × Rest) ℕ) (whole : Result (B × Rest) ℕ) (left behind : Rest) (fault : CertFault) → ((k : ℕ) → part ≡ Err k → whole ≡ Err k)
    → Gives part left (Err fault) → Gives whole behind (Err fault)
faulty part whole left behind (Malformed k) on h = on k h
faulty part whole left behind NoMemory on h = tt

-- ---- states

states_next : (cap n i k : ℕ) (xs : List Chars) → i < n
    → read_states cap (n - i) i k xs ≡ and_then (next (state_in cap i) k xs) (λ t. and_then (read_states cap (n - (i + 1)) (i + 1) t.1.0 t.1.1) (λ u. Ok (t.0 ∷ u.0, u.1)))
states_next cap n i k xs l = let e : n - i ≡ suc (n - (i + 1)) = omega (arith, l) in ap (λ m. read_states cap m i k xs) e

pub states_fault : (cap n i k : ℕ) (xs : List Chars) (whole : Result (List StateRow × Rest) ℕ) (done : List StateRow) (left behind : Rest) (fault : CertFault) → i < n
    → whole ≡ glued done (read_states cap (n - i) i k xs) → Gives (next (state_in cap i) k xs) left (Err fault) → Gives whole behind (Err fault)
states_fault cap n i k xs whole done left behind fault l h g =
    faulty (next (state_in cap i) k xs) whole left behind fault (λ j e.
    h ∙ ap (glued done) (states_next cap n i k xs l ∙ ap (λ r. and_then r (λ t. and_then (read_states cap (n - (i + 1)) (i + 1) t.1.0 t.1.1) (λ u. Ok (t.0 ∷ u.0, u.1)))) e)) g

pub states_more : (cap n i k : ℕ) (xs : List Chars) (whole : Result (List StateRow × Rest) ℕ) (done more : List StateRow) (row : StateRow) (left : Rest) → i < n
    → whole ≡ glued done (read_states cap (n - i) i k xs) → next (state_in cap i) k xs ≡ Ok (row, left) → more ≡ done ++ row ∷ []
    → whole ≡ glued more (read_states cap (n - (i + 1)) (i + 1) left.0 left.1)
states_more cap n i k xs whole done more row left l h e m =
    h ∙ (ap (glued done) (states_next cap n i k xs l ∙ ap (λ r. and_then r (λ t. and_then (read_states cap (n - (i + 1)) (i + 1) t.1.0 t.1.1) (λ u. Ok (t.0 ∷ u.0, u.1)))) e)
    ∙ (glue_step done row (read_states cap (n - (i + 1)) (i + 1) left.0 left.1) ∙ ap (λ d. glued d (read_states cap (n - (i + 1)) (i + 1) left.0 left.1)) (sym m)))

pub states_end : (cap n i k : ℕ) (xs : List Chars) (whole : Result (List StateRow × Rest) ℕ) (done : List StateRow) → n ≤ i
    → whole ≡ glued done (read_states cap (n - i) i k xs) → whole ≡ Ok (done, (k, xs))
states_end cap n i k xs whole done l h =
    let e : n - i ≡ 0 = omega (arith, l) in glue_end whole done (k, xs) (h ∙ ap (λ m. glued done (read_states cap m i k xs)) e)

-- ---- rows

abbrev RowsOn : ℕ → Declarations → List Element → (Row × Rest) → Result (List Row × Rest) ℕ
RowsOn cap second es t = and_then (read_rows cap second es t.1.0 t.1.1) (λ u. Ok (t.0 ∷ u.0, u.1))

rows_on : (cap : ℕ) (second : Declarations) (es : List Element) (place k : ℕ) (xs : List Chars) → place < length es
    → read_rows cap second (drop place es) k xs ≡ and_then (read_row_at cap second (slice_get es place) k xs) (RowsOn cap second (drop (place + 1) es))
rows_on cap second es place k xs l = by (slice_get es place) refl
  where
    by : (o : Option Element) → slice_get es place ≡ o → read_rows cap second (drop place es) k xs ≡ and_then (read_row_at cap second o k xs) (RowsOn cap second (drop (place + 1) es))
    by None h = let p = past es place h in absurd (omega (arith, p, l))
    by (Some e) h = ap (λ ds. read_rows cap second ds k xs) (drop_step es place e h)

pub rows_fault : (cap : ℕ) (second : Declarations) (es : List Element) (place k : ℕ) (xs : List Chars) (whole : Result (List Row × Rest) ℕ) (done : List Row) (left behind : Rest) (fault : CertFault)
    → place < length es → whole ≡ glued done (read_rows cap second (drop place es) k xs) → Gives (read_row_at cap second (slice_get es place) k xs) left (Err fault) → Gives whole behind (Err fault)
rows_fault cap second es place k xs whole done left behind fault l h g =
    faulty (read_row_at cap second (slice_get es place) k xs) whole left behind fault (λ j e.
    h ∙ ap (glued done) (rows_on cap second es place k xs l ∙ ap (λ r. and_then r (RowsOn cap second (drop (place + 1) es))) e)) g

pub rows_more : (cap : ℕ) (second : Declarations) (es : List Element) (place k : ℕ) (xs : List Chars) (whole : Result (List Row × Rest) ℕ) (done more : List Row) (row : Row) (left : Rest)
    → place < length es → whole ≡ glued done (read_rows cap second (drop place es) k xs) → read_row_at cap second (slice_get es place) k xs ≡ Ok (row, left) → more ≡ done ++ row ∷ []
    → whole ≡ glued more (read_rows cap second (drop (place + 1) es) left.0 left.1)
rows_more cap second es place k xs whole done more row left l h e m =
    h ∙ (ap (glued done) (rows_on cap second es place k xs l ∙ ap (λ r. and_then r (RowsOn cap second (drop (place + 1) es))) e)
    ∙ (glue_step done row (read_rows cap second (drop (place + 1) es) left.0 left.1) ∙ ap (λ d. glued d (read_rows cap second (drop (place + 1) es) left.0 left.1)) (sym m)))

pub rows_end : (cap : ℕ) (second : Declarations) (es : List Element) (place k : ℕ) (xs : List Chars) (whole : Result (List Row × Rest) ℕ) (done : List Row) → length es ≤ place
    → whole ≡ glued done (read_rows cap second (drop place es) k xs) → whole ≡ Ok (done, (k, xs))
rows_end cap second es place k xs whole done l h = glue_end whole done (k, xs) (h ∙ ap (λ ds. glued done (read_rows cap second ds k xs)) (drop_all es place l))
