-- What least costs that are numbers say.
use Rattle.std.proofs.Common.{◌≡◌, List, [], ◌∷◌, ℕ, zero, suc, map, get_or, Bool, true, false, Some, slice_get, inl, inr, refl, sym, ap, ◌∙◌, subst, true≢false}
use Rattle.std.specs.Prelude.{option_and_then}
use Rattle.std.specs.Bool.{Decides}
use Rattle.std.specs.List.{list_all}
use Rattle.std.specs.Option.{option_map_or}
use Rattle.std.proofs.lemmas.Bool.{and_parts, and_from}
use Rattle.content_models.specs.declared.content.Content.{Content}
use Rattle.content_models.specs.Model.{Chars, among}
use Rattle.document_trees.specs.Trees.{size}
use Rattle.decl_set.specs.Declarations.{Declarations, content_in}
use Rattle.model_inclusion.specs.Included.{Ends}
use Rattle.tree_costs.specs.declared.cost.Cost.{Cost}
use Rattle.tree_costs.specs.declared.cost.Cost.TheVariants.{Fin, Inf}
use Rattle.tree_costs.specs.declared.least.Least.{Least}
use Rattle.tree_costs.specs.declared.least.LeastRow.{LeastRow}
use Rattle.tree_costs.specs.Costs.{AtMost, cut, sum, total}
use Rattle.tree_costs.specs.Leasts.{IsExact, m_of, p_of}
use Rattle.tagset_report.specs.Finite.{is_finite, DocumentsByCosts, EndsByCosts}
use Rattle.tagset_report.specs.Live.{AreLive}

not_none : (c : Cost) → is_finite c ≡ true → c ≡ Inf → ⊥
not_none c h e = true≢false (sym h ∙ ap is_finite e)

-- what is at most a number is a number
below_number : (c d : Cost) → AtMost c d → is_finite d ≡ true → is_finite c ≡ true
below_number (Fin a) d h f = refl
below_number Inf (Fin b) h f = elim h [ ]
below_number Inf Inf h f = f

sum_to : (cap : ℕ) (c d : Cost) → is_finite (sum cap c d) ≡ true → (is_finite c ≡ true) × (is_finite d ≡ true)
sum_to cap (Fin a) (Fin b) h = (refl, refl)
sum_to cap (Fin a) Inf h = absurd (true≢false (sym h))
sum_to cap Inf d h = absurd (true≢false (sym h))

sum_from : (cap : ℕ) (c d : Cost) → is_finite c ≡ true → is_finite d ≡ true → is_finite (sum cap c d) ≡ true
sum_from cap (Fin a) (Fin b) h k = refl
sum_from cap (Fin a) Inf h k = absurd (true≢false (sym k))
sum_from cap Inf d h k = absurd (true≢false (sym h))

pub documents_by_costs : DocumentsByCosts
documents_by_costs set least e x = (
  (λ f. elim (x.costs.sizes e).1 [
    | inl z ↦ absurd (not_none (m_of set least e) f z)
    | inr t ↦ (t.0, t.1, t.2)
  ]),
  (λ d. below_number (m_of set least e) (cut least.cap (size d.0)) ((x.costs.sizes e).0 (cut least.cap (size d.0)) (d.0, d.1, d.2, refl)) refl),
)

module _ (set : Declarations) (least : Least) (live : List Chars) (x : IsExact set least) (h : AreLive set live) where
  abbrev m : Chars → Cost
  m = m_of set least

  names_to : (ns : List Chars) → is_finite (total least.cap m ns) ≡ true → list_all (among live) ns ≡ true
  names_to [] f = refl
  names_to (n ∷ ns) f =
      let p = sum_to least.cap (m n) (total least.cap m ns) f in
      and_from (among live n) (list_all (among live) ns) ((h n).1 ((documents_by_costs set least n x).0 p.0)) (names_to ns p.1)

  names_from : (ns : List Chars) → list_all (among live) ns ≡ true → is_finite (total least.cap m ns) ≡ true
  names_from [] t = refl
  names_from (n ∷ ns) t =
      let p = and_parts (among live n) (list_all (among live) ns) t in
      sum_from least.cap (m n) (total least.cap m ns) ((documents_by_costs set least n x).1 ((h n).0 p.0)) (names_from ns p.1)

  pub ends_told : (e : Chars) (a : Content) (i : ℕ) → content_in set e ≡ Some a → Decides (is_finite (p_of set least e i)) (Ends live a i)
  ends_told e a i d =
      let L = x.costs.sums e a i d in (
        (λ f. elim L.1 [
          | inl z ↦ absurd (not_none (p_of set least e i) f z)
          | inr t ↦ (t.0, names_to t.0 (sym (ap is_finite t.2) ∙ f), t.1)
        ]),
        (λ n. below_number (p_of set least e i) (total least.cap m n.0) (L.0 (total least.cap m n.0) (n.0, n.2, refl)) (names_from n.0 n.1)),
      )

-- the flag at a place is that of the cost there
flag_is : (ps : List Cost) (i : ℕ) → get_or (map is_finite ps) i false ≡ is_finite (option_map_or (λ c. c) (slice_get ps i) Inf)
flag_is [] i = refl
flag_is (c ∷ ps) zero = refl
flag_is (c ∷ ps) (suc i) = flag_is ps i

pub ends_by_costs : EndsByCosts
ends_by_costs set least live e a row x h d r i l =
    let same : is_finite (p_of set least e i) ≡ get_or (map is_finite row.p) i false =
    ap (λ o. is_finite (option_map_or (λ c. c) (option_and_then (λ (row : LeastRow). slice_get row.p i) o) Inf)) r ∙ sym (flag_is row.p i) in
    subst (λ (b : Bool). Decides b (Ends live a i)) same (ends_told set least live x h e a i d)
