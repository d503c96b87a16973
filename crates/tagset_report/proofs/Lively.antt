-- The names that have documents.
use Rattle.std.proofs.Common.{◌≡◌, ◌<◌, ◌≤◌, ◌+◌, List, [], ◌∷◌, ◌++◌, ℕ, zero, suc, length, get_or, drop, Bool, true, false, cond, ◌||◌, Option, Some, None, slice_get, bytes_eq, inl, inr, refl, sym, ap, ◌∙◌, subst, arith, true≢false, IfOk, Result, Ok, Err}
use Rattle.std.specs.Prelude.{option_map, option_and_then}
use Rattle.std.specs.Option.{option_map_or}
use Rattle.std.proofs.lemmas.Bool.{cases_Bool, or_left, or_right}
use Rattle.std.proofs.lemmas.List.{append_assoc, append-nil}
use Rattle.attribute_types.proofs.TextTests.{bytes_same, bytes_own}
use Rattle.jats_chars.specs.declared.NoMemory.{NoMemory}
use Rattle.content_models.specs.Model.{Chars, among}
use Rattle.decl_set.specs.Asked.{IsKept}
use Rattle.decl_set.specs.Declarations.{Declarations, Element, name_of}
use Rattle.decl_set.specs.Validity.{HasDocument}
use Rattle.tree_costs.specs.declared.cost.Cost.TheVariants.{Inf}
use Rattle.tree_costs.specs.declared.least.Least.{Least}
use Rattle.tree_costs.specs.declared.least.LeastRow.{LeastRow}
use Rattle.tree_costs.specs.Leasts.{IsExact, FitRows, m_of, place_of}
use Rattle.tree_costs.proofs.Places.{is_at, stands_at}
use Rattle.tagset_report.specs.Finite.{is_finite, live_of, as_list}
use Rattle.tagset_report.specs.Live.{AreLive}
use Rattle.tagset_report.proofs.Numbers.{documents_by_costs}

-- ---- what stands in the list

record Stands (es : List Element) (rows : List LeastRow) (name : Chars) : Type 0 where
  place : ℕ
  element : Element
  row : LeastRow
  at : slice_get es place ≡ Some element
  row_at : slice_get rows place ≡ Some row
  named : name ≡ element.0
  finite : is_finite row.m ≡ true

later : (e : Element) (es : List Element) (row : LeastRow) (rows : List LeastRow) (name : Chars) → Stands es rows name → Stands (e ∷ es) (row ∷ rows) name
later e es row rows name s = record { place = suc s.place; element = s.element; row = s.row; at = s.at; row_at = s.row_at; named = s.named; finite = s.finite }

stands_to : (es : List Element) (rows : List LeastRow) (name : Chars) → among (live_of es rows) name ≡ true → Stands es rows name
stands_to [] rows name h = absurd (true≢false (sym h))
stands_to (e ∷ es) [] name h = absurd (true≢false (sym h))
stands_to (e ∷ es) (row ∷ rows) name h = by (is_finite row.m) refl h (stands_to es rows name)
  where
    by : (b : Bool) → is_finite row.m ≡ b → among (cond b (e.0 ∷ live_of es rows) (live_of es rows)) name ≡ true → (among (live_of es rows) name ≡ true → Stands es rows name)
        → Stands (e ∷ es) (row ∷ rows) name
    by false q h rec = later e es row rows name (rec h)
    by true q h rec = elim (cases_Bool (bytes_eq name e.0)) [
      | inl s ↦ record { place = 0; element = e; row = row; at = refl; row_at = refl; named = bytes_same name e.0 s; finite = q }
      | inr d ↦ later e es row rows name (rec (sym (ap (λ x. x || among (live_of es rows) name) d) ∙ h))
    ]

stands_from : (es : List Element) (rows : List LeastRow) (k : ℕ) (e : Element) (row : LeastRow) → slice_get es k ≡ Some e → slice_get rows k ≡ Some row → is_finite row.m ≡ true
    → among (live_of es rows) e.0 ≡ true
stands_from [] rows k e row q r f = cc
stands_from (x ∷ es) [] k e row q r f = cc
stands_from (x ∷ es) (y ∷ rows) zero e row q r f =
    let same : x ≡ e = cc in
    let is : y ≡ row = cc in
    ap (λ b. among (cond b (x.0 ∷ live_of es rows) (live_of es rows)) e.0) (ap (λ (z : LeastRow). is_finite z.m) is ∙ f)
    ∙ or_left (bytes_eq e.0 x.0) (among (live_of es rows) e.0) (ap (λ (z : Element). bytes_eq e.0 z.0) same ∙ bytes_own e.0)
stands_from (x ∷ es) (y ∷ rows) (suc k) e row q r f = by (is_finite y.m) (stands_from es rows k e row q r f)
  where
    by : (b : Bool) → among (live_of es rows) e.0 ≡ true → among (cond b (x.0 ∷ live_of es rows) (live_of es rows)) e.0 ≡ true
    by true h = or_right (bytes_eq e.0 x.0) (among (live_of es rows) e.0) h
    by false h = h

-- ---- they are those with documents

module _ (set : Declarations) (least : Least) (kept : IsKept set) (x : IsExact set least) where
  cost_at : (k : ℕ) (name : Chars) (row : LeastRow) → place_of set name ≡ Some k → slice_get least.rows k ≡ Some row → m_of set least name ≡ row.m
  cost_at k name row q r = ap (λ o. option_map_or (λ (z : LeastRow). z.m) (option_and_then (slice_get least.rows) o) Inf) q ∙ ap (λ o. option_map_or (λ (z : LeastRow). z.m) o Inf) r

  live_to : (name : Chars) → among (live_of set.elements least.rows) name ≡ true → HasDocument set name
  live_to name h =
      let s = stands_to set.elements least.rows name h in
      let p = is_at set kept s.place s.element s.at in
      let c = cost_at s.place s.element.0 s.row p.1 s.row_at in
      subst (HasDocument set) (sym s.named) ((documents_by_costs set least s.element.0 x).0 (ap is_finite c ∙ s.finite))

  live_from : (name : Chars) → HasDocument set name → among (live_of set.elements least.rows) name ≡ true
  live_from name d = by (place_of set name) refl
    where
      f : is_finite (m_of set least name) ≡ true
      f = (documents_by_costs set least name x).1 d

      row_by : (k : ℕ) → place_of set name ≡ Some k → (r : Option LeastRow) → slice_get least.rows k ≡ r → among (live_of set.elements least.rows) name ≡ true
      row_by k q None r =
          let z : m_of set least name ≡ Inf = ap (λ o. option_map_or (λ (z : LeastRow). z.m) (option_and_then (slice_get least.rows) o) Inf) q ∙ ap (λ o. option_map_or (λ (z : LeastRow). z.m) o Inf) r in
          absurd (true≢false (sym f ∙ ap is_finite z))
      row_by k q (Some row) r =
          let s = stands_at set name k q in
          stands_from set.elements least.rows k (name, s.0) row s.2 r (sym (ap is_finite (cost_at k name row q r)) ∙ f)

      by : (o : Option ℕ) → place_of set name ≡ o → among (live_of set.elements least.rows) name ≡ true
      by None q =
          let z : m_of set least name ≡ Inf = ap (λ o. option_map_or (λ (z : LeastRow). z.m) (option_and_then (slice_get least.rows) o) Inf) q in
          absurd (true≢false (sym f ∙ ap is_finite z))
      by (Some k) q = row_by k q (slice_get least.rows k) refl

  pub are_live : (names live : List Chars) → names ≡ live_of set.elements least.rows → ((name : Chars) → among live name ≡ among names name) → AreLive set live
  are_live names live e same name =
      let at : among live name ≡ among (live_of set.elements least.rows) name = same name ∙ ap (λ (z : List Chars). among z name) e in
      ((λ h. live_to name (sym at ∙ h)), (λ d. at ∙ live_from name d))

  pub live_result : (names : List Chars) → names ≡ live_of set.elements least.rows → (r : Result (List Chars) NoMemory)
      → IfOk r (λ live. (name : Chars) → among live name ≡ among names name) → IfOk r (AreLive set)
  live_result names e (Ok live) h = are_live names live e h
  live_result names e (Err f) h = tt

-- ---- one more at a time

drop_more : {A : Type 0} (xs : List A) (k : ℕ) (x : A) → slice_get xs k ≡ Some x → drop k xs ≡ x ∷ drop (k + 1) xs
drop_more [] k x h = cc
drop_more (y ∷ ys) zero x h = let e : y ≡ x = cc in ap (λ z. z ∷ ys) e
drop_more (y ∷ ys) (suc k) x h = drop_more ys k x h ∙ ap (λ m. x ∷ drop m (y ∷ ys)) (let e : suc (k + 1) ≡ suc k + 1 = omega arith in e)

fits_at : (es : List Element) (rows : List LeastRow) (k : ℕ) (row : LeastRow) → FitRows es rows → slice_get rows k ≡ Some row → (e : Element) × (slice_get es k ≡ Some e)
fits_at [] [] k row f h = cc
fits_at [] (y ∷ rows) k row f h = elim f [ ]
fits_at (x ∷ es) [] k row f h = cc
fits_at (x ∷ es) (y ∷ rows) zero row f h = (x, refl)
fits_at (x ∷ es) (y ∷ rows) (suc k) row f h = fits_at es rows k row f.1 h

got : (rows : List LeastRow) (k : ℕ) (row : LeastRow) → k < length rows → row ≡ get_or rows k row → slice_get rows k ≡ Some row
got [] k row h e = absurd (omega arith)
got (y ∷ rows) zero row h e = ap (λ (z : LeastRow). Some z) (sym e)
got (y ∷ rows) (suc k) row h e = got rows k row (omega arith) e

module _ (es : List Element) (rows : List LeastRow) (f : FitRows es rows) (k : ℕ) (row : LeastRow) (l : k < length rows) (e : row ≡ get_or rows k row) (names : List Chars)
    (h : names ++ live_of (drop k es) (drop k rows) ≡ live_of es rows) where
  here : live_of (drop k es) (drop k rows) ≡ cond (is_finite row.m) (as_list (option_map name_of (slice_get es k)) ++ live_of (drop (k + 1) es) (drop (k + 1) rows)) (live_of (drop (k + 1) es) (drop (k + 1) rows))
  here =
      let r = got rows k row l e in
      let x = fits_at es rows k row f r in
      ap (λ z. live_of z (drop k rows)) (drop_more es k x.0 x.1) ∙ ap (λ z. live_of (x.0 ∷ drop (k + 1) es) z) (drop_more rows k row r)
      ∙ ap (λ o. cond (is_finite row.m) (as_list (option_map name_of o) ++ live_of (drop (k + 1) es) (drop (k + 1) rows)) (live_of (drop (k + 1) es) (drop (k + 1) rows))) (sym x.1)

  pub finite_more : (new : List Chars) → is_finite row.m ≡ true → new ≡ names ++ as_list (option_map name_of (slice_get es k)) → new ++ live_of (drop (k + 1) es) (drop (k + 1) rows) ≡ live_of es rows
  finite_more new t n =
      let tail = live_of (drop (k + 1) es) (drop (k + 1) rows) in
      let own = as_list (option_map name_of (slice_get es k)) in
      ap (λ z. z ++ tail) n ∙ append_assoc names own tail ∙ ap (λ z. names ++ z) (sym (here ∙ ap (λ b. cond b (own ++ tail) tail) t)) ∙ h

  pub other_more : is_finite row.m ≡ false → names ++ live_of (drop (k + 1) es) (drop (k + 1) rows) ≡ live_of es rows
  other_more t =
      let tail = live_of (drop (k + 1) es) (drop (k + 1) rows) in
      let own = as_list (option_map name_of (slice_get es k)) in
      ap (λ z. names ++ z) (sym (here ∙ ap (λ b. cond b (own ++ tail) tail) t)) ∙ h

past : {A : Type 0} (xs : List A) (k : ℕ) → length xs ≤ k → drop k xs ≡ []
past [] zero h = refl
past [] (suc k) h = refl
past (x ∷ xs) zero h = absurd (omega arith)
past (x ∷ xs) (suc k) h = past xs k (omega arith)

live_none : (es : List Element) → live_of es [] ≡ []
live_none [] = refl
live_none (e ∷ es) = refl

pub all_finite : (es : List Element) (rows : List LeastRow) (k : ℕ) (names : List Chars) → length rows ≤ k → names ++ live_of (drop k es) (drop k rows) ≡ live_of es rows → names ≡ live_of es rows
all_finite es rows k names l h =
    sym (append-nil names) ∙ ap (λ z. names ++ z) (sym (ap (live_of (drop k es)) (past rows k l) ∙ live_none (drop k es))) ∙ h
