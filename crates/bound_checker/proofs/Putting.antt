-- Lines are written one after the other.
use Rattle.std.proofs.Common.{◌≡◌, ◌+◌, ℕ, zero, suc, List, [], ◌∷◌, ◌++◌, length, drop, Option, Some, None, refl, sym, ap, ◌∙◌, arith, ◌≤◌, slice_get, append_assoc}
use Rattle.content_models.specs.Model.{Chars}
use Rattle.attlist_merge.proofs.Turns.{drop_step, drop_all}
use Rattle.decl_set.specs.Declarations.{Element}
use Rattle.bound_checker.specs.declared.tables.PairRow.{PairRow}
use Rattle.bound_checker.specs.declared.tables.Row.{Row}
use Rattle.bound_checker.specs.declared.tables.StateRow.{StateRow}
use Rattle.bound_checker.specs.Certificates.{state_head, costs_text, state_lines, pair_text, pair_lines, row_lines}
use Rattle.bound_checker.specs.Lines.{joined, PutsLine, PutsLines, row_lines_at}
use Rattle.std.specs.Prelude.{codes}

-- a line in front of others
pub put_line : (old new line : List ℕ) → PutsLine old new line → (rest : List Chars) → new ++ joined rest ≡ old ++ joined (line ∷ rest)
put_line old new line h rest =
    ap (λ x. x ++ joined rest) h ∙ append_assoc old (line ++ (0xA ∷ [])) (joined rest) ∙ ap (λ x. old ++ x) (append_assoc line (0xA ∷ []) (joined rest))

pub puts_line : (old new line : List ℕ) → PutsLine old new line → PutsLines old new (λ rest. line ∷ rest)
puts_line old new line h rest = put_line old new line h rest

-- one after the other
pub puts_both : (old middle new : List ℕ) (f g : List Chars → List Chars) → PutsLines old middle f → PutsLines middle new g → PutsLines old new (λ rest. f (g rest))
puts_both old middle new f g h k rest = k rest ∙ h (g rest)

-- what is put so far, and what is left, is all
abbrev pub IsPut : List ℕ → List ℕ → (List Chars → List Chars) → (List Chars → List Chars) → Type 0
IsPut old new left all = (rest : List Chars) → new ++ joined (left rest) ≡ old ++ joined (all rest)

-- one more
pub put_more : (old middle new : List ℕ) (one left before all : List Chars → List Chars) → ((rest : List Chars) → before rest ≡ one (left rest))
    → IsPut old middle before all → PutsLines middle new one → IsPut old new left all
put_more old middle new one left before all e h k rest = k (left rest) ∙ ap (λ x. middle ++ joined x) (sym (e rest)) ∙ h rest

-- the next of a list
pub states_next : (states : List StateRow) (k : ℕ) (s : StateRow) → slice_get states k ≡ Some s → (rest : List Chars)
    → state_lines k (drop k states) rest ≡ (state_head k ++ costs_text s.p s.f) ∷ state_lines (k + 1) (drop (k + 1) states) rest
states_next states k s h rest = ap (λ x. state_lines k x rest) (drop_step states k s h)

pub pairs_next : (pairs : List PairRow) (k : ℕ) (x : PairRow) → slice_get pairs k ≡ Some x → (rest : List Chars)
    → pair_lines (drop k pairs) rest ≡ (codes "pair " ++ pair_text x) ∷ pair_lines (drop (k + 1) pairs) rest
pairs_next pairs k x h rest = ap (λ y. pair_lines y rest) (drop_step pairs k x h)

pub past : {X : Type 0} (xs : List X) (k : ℕ) → slice_get xs k ≡ None → length xs ≤ k
past [] k h = omega arith
past (x ∷ xs) zero h = cc
past (x ∷ xs) (suc k) h = let l = past xs k h in omega (arith, l)

no_rows : (es : List Element) (rest : List Chars) → row_lines es [] rest ≡ rest
no_rows [] rest = refl
no_rows (e ∷ es) rest = refl

pub rows_next : (es : List Element) (rows : List Row) (k : ℕ) (rest : List Chars)
    → row_lines (drop k es) (drop k rows) rest ≡ row_lines_at (slice_get es k) (slice_get rows k) (row_lines (drop (k + 1) es) (drop (k + 1) rows) rest)
rows_next es rows k rest = by (slice_get es k) refl (slice_get rows k) refl
  where
    by : (o : Option Element) → slice_get es k ≡ o → (q : Option Row) → slice_get rows k ≡ q
        → row_lines (drop k es) (drop k rows) rest ≡ row_lines_at o q (row_lines (drop (k + 1) es) (drop (k + 1) rows) rest)
    by None h q g =
        let l = past es k h in
        ap (λ x. row_lines x (drop k rows) rest) (drop_all es k l) ∙ sym (ap (λ x. row_lines x (drop (k + 1) rows) rest) (drop_all es (k + 1) (omega (arith, l))))
    by (Some e) h None g =
        let l = past rows k g in
        ap (λ x. row_lines (drop k es) x rest) (drop_all rows k l) ∙ no_rows (drop k es) rest
        ∙ sym (ap (λ x. row_lines (drop (k + 1) es) x rest) (drop_all rows (k + 1) (omega (arith, l))) ∙ no_rows (drop (k + 1) es) rest)
    by (Some e) h (Some row) g =
        ap (λ x. row_lines x (drop k rows) rest) (drop_step es k e h) ∙ ap (λ x. row_lines (e ∷ drop (k + 1) es) x rest) (drop_step rows k row g)

pub rows_end : (es : List Element) (rows : List Row) (k : ℕ) → length es ≤ k → (rest : List Chars) → row_lines (drop k es) (drop k rows) rest ≡ rest
rows_end es rows k l rest = ap (λ x. row_lines x (drop k rows) rest) (drop_all es k l)

-- the first line, others, and the last one
pub cert_put : (empty first rows all head : List ℕ) (f : List Chars → List Chars) → empty ≡ [] → PutsLine empty first head → PutsLines first rows f
    → all ≡ rows ++ codes "end\n" → all ≡ joined (head ∷ f (codes "end" ∷ []))
cert_put empty first rows all head f e h k q =
    q ∙ (k (codes "end" ∷ []) ∙ (put_line empty first head h (f (codes "end" ∷ [])) ∙ ap (λ x. x ++ joined (head ∷ f (codes "end" ∷ []))) e))
