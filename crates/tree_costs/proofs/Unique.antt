-- A set has one table of least costs for a cap.
use Rattle.std.proofs.Common.{◌≡◌, ℕ, zero, suc, ◌<◌, ◌+◌, List, [], ◌∷◌, length, inl, inr, refl, sym, ap, ◌∙◌, subst, arith, Option, Some, None, slice_get}
use Rattle.std.specs.Prelude.{option_and_then, ◌↔◌}
use Rattle.std.specs.Option.{option_map_or}
use Rattle.content_models.specs.declared.content.Content.{Content}
use Rattle.content_models.specs.Model.{Chars}
use Rattle.document_trees.specs.Trees.{size}
use Rattle.decl_set.specs.Asked.{IsKept}
use Rattle.decl_set.specs.Declarations.{Declarations, Element, content_in}
use Rattle.decl_set.specs.Validity.{HasDocument}
use Rattle.position_automata.specs.Automata.{states}
use Rattle.tree_costs.specs.declared.cost.Cost.{Cost}
use Rattle.tree_costs.specs.declared.cost.Cost.TheVariants.{Fin, Inf}
use Rattle.tree_costs.specs.declared.least.Least.{Least}
use Rattle.tree_costs.specs.declared.least.LeastRow.{LeastRow}
use Rattle.tree_costs.specs.Costs.{AtMost, cut, IsLeast}
use Rattle.tree_costs.specs.Families.{OfDocument, OfNames, AreExact}
use Rattle.tree_costs.specs.Laws.{OneLeast, DocumentsTold}
use Rattle.tree_costs.specs.Leasts.{place_of, row_of, m_of, p_of, FitRows, IsExact}
use Rattle.tree_costs.proofs.Costs.{least-one}
use Rattle.tree_costs.proofs.Places.{is_at}

-- ---- least costs are the same

module _ (set : Declarations) (cap : ℕ) (m n : Chars → Cost) (p q : Chars → ℕ → Cost) (x : AreExact set cap m p) (y : AreExact set cap n q) where
  pub one_m : (e : Chars) → m e ≡ n e
  one_m e = least-one (OfDocument cap set e) (m e) (n e) (x.sizes e) (y.sizes e)

  ms : m ≡ n
  ms = λ i e. one_m e i

  pub one_p : (e : Chars) (a : Content) (i : ℕ) → content_in set e ≡ Some a → p e i ≡ q e i
  one_p e a i d = least-one (OfNames cap m a i) (p e i) (q e i) (x.sums e a i d) (subst (λ k. IsLeast (OfNames cap k a i) (q e i)) (sym ms) (y.sums e a i d))

-- ---- tables that say the same are the same

-- lists that agree at each place
pub same_items : {X : Type 0} (xs ys : List X) → ((k : ℕ) → slice_get xs k ≡ slice_get ys k) → xs ≡ ys
same_items [] [] h = refl
same_items [] (y ∷ ys) h = let e = h 0 in cc
same_items (x ∷ xs) [] h = let e = h 0 in cc
same_items (x ∷ xs) (y ∷ ys) h =
    let e = h 0 in
    let same : x ≡ y = cc in
    ap (λ z. z ∷ xs) same ∙ ap (λ zs. y ∷ zs) (same_items xs ys (λ k. h (suc k)))

-- costs that agree at each place, where there are equally many
same_costs : (xs ys : List Cost) → length xs ≡ length ys → ((i : ℕ) → option_map_or (λ c. c) (slice_get xs i) Inf ≡ option_map_or (λ c. c) (slice_get ys i) Inf) → xs ≡ ys
same_costs [] [] l h = refl
same_costs [] (y ∷ ys) l h = absurd (omega arith)
same_costs (x ∷ xs) [] l h = absurd (omega arith)
same_costs (x ∷ xs) (y ∷ ys) l h =
    ap (λ z. z ∷ xs) (h 0) ∙ ap (λ zs. y ∷ zs) (same_costs xs ys (omega arith) (λ i. h (suc i)))

-- the row at the place of an element
row_at : (es : List Element) (rows : List LeastRow) (k : ℕ) (e : Element) → FitRows es rows → slice_get es k ≡ Some e
    → (row : LeastRow) × (slice_get rows k ≡ Some row) × (length row.p ≡ states e.1)
row_at [] rows k e f h = cc
row_at (x ∷ es) [] k e f h = elim f [ ]
row_at (x ∷ es) (row ∷ rows) zero e f h = let same : x ≡ e = cc in (row, refl, f.0 ∙ ap (λ (z : Element). states z.1) same)
row_at (x ∷ es) (row ∷ rows) (suc k) e f h = row_at es rows k e f.1 h

no_row : (es : List Element) (rows : List LeastRow) (k : ℕ) → FitRows es rows → slice_get es k ≡ None → slice_get rows k ≡ None
no_row [] [] k f h = refl
no_row [] (row ∷ rows) k f h = elim f [ ]
no_row (x ∷ es) [] k f h = elim f [ ]
no_row (x ∷ es) (row ∷ rows) zero f h = cc
no_row (x ∷ es) (row ∷ rows) (suc k) f h = no_row es rows k f.1 h

pub one_least : OneLeast
one_least set least other kept x y caps = λ i. record { cap = caps i; rows = rows i }
  where
    costs : AreExact set least.cap (m_of set other) (p_of set other)
    costs = subst (λ (cap : ℕ). AreExact set cap (m_of set other) (p_of set other)) (sym caps) y.costs

    -- what is read at a place
    read : (l : Least) (e : Element) (k : ℕ) (row : LeastRow) → slice_get set.elements k ≡ Some e → slice_get l.rows k ≡ Some row → row_of set l e.0 ≡ Some row
    read l e k row h r = ap (option_and_then (slice_get l.rows)) (is_at set kept k e h).1 ∙ r

    here : (k : ℕ) (o : Option Element) → slice_get set.elements k ≡ o → slice_get least.rows k ≡ slice_get other.rows k
    here k None h = no_row set.elements least.rows k x.rows h ∙ sym (no_row set.elements other.rows k y.rows h)
    here k (Some e) h =
        let t = row_at set.elements least.rows k e x.rows h in
        let u = row_at set.elements other.rows k e y.rows h in
        let r = read least e k t.0 h t.1 in
        let s = read other e k u.0 h u.1 in
        let m : (t.0).m ≡ (u.0).m =
        ap (λ (o : Option LeastRow). option_map_or (λ row. row.m) o Inf) (sym r)
        ∙ one_m set least.cap (m_of set least) (m_of set other) (p_of set least) (p_of set other) x.costs costs e.0
        ∙ ap (λ (o : Option LeastRow). option_map_or (λ row. row.m) o Inf) s in
        let at = λ (i : ℕ).
        ap (λ (o : Option LeastRow). option_map_or (λ c. c) (option_and_then (λ row. slice_get row.p i) o) Inf) (sym r)
        ∙ one_p set least.cap (m_of set least) (m_of set other) (p_of set least) (p_of set other) x.costs costs e.0 e.1 i (is_at set kept k e h).0
        ∙ ap (λ (o : Option LeastRow). option_map_or (λ c. c) (option_and_then (λ row. slice_get row.p i) o) Inf) s in
        let p : (t.0).p ≡ (u.0).p = same_costs (t.0).p (u.0).p (t.2 ∙ sym u.2) at in
        let rows : t.0 ≡ u.0 = λ i. record { m = m i; p = p i } in
        t.1 ∙ ap Some rows ∙ sym u.1

    rows : least.rows ≡ other.rows
    rows = same_items least.rows other.rows (λ k. here k (slice_get set.elements k) refl)

-- an element has no document exactly where its least size is none
pub documents_told : DocumentsTold
documents_told set cap m p x e = (
  (λ q t. (elim (subst (λ c. AtMost c (cut cap (size t.0))) q ((x.sizes e).0 (cut cap (size t.0)) (t.0, t.1, t.2, refl))) [ ])),
  (λ n. elim (x.sizes e).1 [ inl q ↦ q | inr t ↦ absurd (n (t.0, t.1, t.2)) ]),
)
