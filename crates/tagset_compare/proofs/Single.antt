-- Two answers to one comparison are one.
use Rattle.std.proofs.Common.{◌≡◌, ◌≤◌, ◌+◌, ℕ, List, [], ◌∷◌, ◌++◌, Some, None, Ok, Err, IsTrue, refl, sym, ap, ◌∙◌, subst, arith, true≢false}
use Rattle.std.specs.Prelude.{Option, Result, is_some}
use Rattle.std.specs.List.{AllByRecursion}
use Rattle.content_models.specs.declared.content.Content.{Content}
use Rattle.content_models.specs.Model.{Chars}
use Rattle.document_trees.specs.Trees.{Node}
use Rattle.decl_set.specs.Asked as set
use Rattle.decl_set.specs.Declarations.{Declarations, Element, content_in, attributes_in}
use Rattle.decl_set.specs.Breaks.{Breaks, IsKept, IsFirstBroken}
use Rattle.decl_set.specs.declared.breaks.Cause.{Cause}
use Rattle.decl_set.specs.declared.breaks.BrokenDecl.{BrokenDecl}
use Rattle.tree_costs.specs.declared.cost.Cost.{Cost}
use Rattle.tree_costs.specs.declared.cost.Cost.TheVariants.{Fin, Inf}
use Rattle.bound_checker.specs.declared.tables.Tables.{Tables}
use Rattle.bound_checker.specs.Tabled.{costs_of}
use Rattle.exact_tables.proofs.Choosing.{one_chosen}
use Rattle.tagset_report.specs.Reported.{PassesAt}
use Rattle.tagset_report.proofs.Judging.{one_cause}
use Rattle.tagset_report.proofs.Once.{not_later, passes_once}
use Rattle.comparison_tables.specs.Outcome.{AreExactTables}
use Rattle.comparison_tables.proofs.TheTables.{one_tables}
use Rattle.separating_article.specs.Articles.{text_size}
use Rattle.separating_article.specs.Separating.{IsChosenOf}
use Rattle.tagset_compare.specs.declared.fault.CompareFault.{CompareFault}
use Rattle.tagset_compare.specs.declared.fault.CompareFault.TheVariants.{RootUndeclared, PairsOver, TextOver, NoMemory}
use Rattle.tagset_compare.specs.declared.outcome.Verdict.{Verdict}
use Rattle.tagset_compare.specs.declared.outcome.Verdict.TheVariants.{Subset, Not, Over}
use Rattle.tagset_compare.specs.Compared.{IsArticle, IsBrokenAt, Compares}
use Rattle.tagset_compare.specs.Verdicts.{tables_in, OneVerdict}
use Rattle.tagset_compare.proofs.Arms.{root_bound, bound_within}

-- ---- the first element that breaks is one

-- the first element of a list without K, where those before it have K
first_without : {X : Type 0} (K : X → Type 0) (before other : List X) (p q : X) (after more : List X) → before ++ p ∷ after ≡ other ++ q ∷ more
    → AllByRecursion K before → AllByRecursion K other → (K p → ⊥) → (K q → ⊥) → p ≡ q
first_without K [] [] p q after more same all each off out = cc
first_without K [] (y ∷ ys) p q after more same all each off out = let e : y ≡ p = cc in absurd (off (subst K e each.0))
first_without K (x ∷ xs) [] p q after more same all each off out = let e : x ≡ q = cc in absurd (out (subst K e all.0))
first_without K (x ∷ xs) (y ∷ ys) p q after more same all each off out =
    let e : xs ++ p ∷ after ≡ ys ++ q ∷ more = cc in
    first_without K xs ys p q after more e all.1 each.1 off out

broken_by : Chars → Cause → BrokenDecl
broken_by element cause = record { element = element; cause = cause }

one_first_broken : (first second : Declarations) (root : Chars) (d e : BrokenDecl) → IsFirstBroken first second root d.element d.cause
    → IsFirstBroken first second root e.element e.cause → d ≡ e
unfolding broken_by
one_first_broken first second root d e one other =
    let pairs : (d.element, one.declared) ≡ (e.element, other.declared) =
    first_without (IsKept first second root) one.before other.before (d.element, one.declared) (e.element, other.declared) one.after other.after (sym one.place ∙ other.place) one.kept other.kept
    (λ k. k one.useful d.cause one.breaks) (λ k. k other.useful e.cause other.breaks) in
    let names : d.element ≡ e.element = ap (λ (p : Element). p.0) pairs in
    let causes : d.cause ≡ e.cause =
    one_cause first (content_in first e.element) (content_in second e.element) (attributes_in first e.element) (attributes_in second e.element) d.cause e.cause
    (subst (λ (n : Chars). Breaks first second n d.cause) names one.breaks) other.breaks in
    ap (λ (n : Chars). broken_by n d.cause) names ∙ ap (λ (k : Cause). broken_by e.element k) causes

-- ---- answers

undeclared : (o : Option Content) → (a : Content) × (o ≡ Some a) → o ≡ None → ⊥
undeclared o h e = let q : Some h.0 ≡ None = sym h.1 ∙ e in cc

declared : (o : Option Content) → IsTrue (is_some o) → o ≡ None → ⊥
declared o h e = true≢false (sym h ∙ ap is_some e)

some_same : (b c : BrokenDecl) → Some b ≡ Some c → b ≡ c
some_same b c e = cc

fin-same : (n m : ℕ) → Fin n ≡ Fin m → n ≡ m
fin-same n m e = cc

module _ (first second : Declarations) (root : Chars) (cap limit : ℕ) (kept : set.IsKept first) where
  abbrev Compared : Result Verdict CompareFault → Type 0
  Compared result = Compares first second root cap limit result

  abbrev v_of : Tables → Cost
  v_of tables = (costs_of first tables).v root

  abbrev AreExact : Tables → Type 0
  AreExact tables = AreExactTables first second root cap tables

  abbrev ByTables : Tables → Node → Type 0
  ByTables tables article = IsArticle first second root cap tables article

  -- the root is declared, and the sum of pairs stays within
  not_undeclared : (tables : Tables) → AreExact tables → content_in first root ≡ None → ⊥
  not_undeclared tables X e = undeclared (content_in first tables.root) X.fits.root (ap (content_in first) X.root_is ∙ e)

  not_passing : (tables : Tables) → AreExact tables → (name : Chars) → PassesAt first second name → ⊥
  not_passing tables X name p = not_later first second name p first.elements p.after X.sum p.place X.sums X.within

  -- one bound
  same_bounds : (t u : Tables) (c d : Cost) → AreExact t → AreExact u → v_of t ≡ c → v_of u ≡ d → c ≡ d
  same_bounds t u c d X Y q r = sym q ∙ ap v_of (one_tables first second root cap t u kept X Y) ∙ r

  not_subset : (t u : Tables) (article : Node) → AreExact t → v_of t ≡ Inf → ByTables u article → ⊥
  not_subset t u article X q h =
      let e : Inf ≡ Fin h.1.0 = same_bounds t u Inf (Fin h.1.0) X h.0 q (root_bound first second root cap u h.0 h.1) in
      cc

  not_over : (t u : Tables) (article : Node) → AreExact t → v_of t ≡ Fin (cap + 1) → ByTables u article → ⊥
  not_over t u article X q h =
      let e = fin-same (cap + 1) h.1.0 (same_bounds t u (Fin (cap + 1)) (Fin h.1.0) X h.0 q (root_bound first second root cap u h.0 h.1)) in
      omega (arith, e, bound_within first second root cap u h.0 h.1)

  not_both : (t u : Tables) → AreExact t → v_of t ≡ Inf → AreExact u → v_of u ≡ Fin (cap + 1) → ⊥
  not_both t u X q Y r = let e : Inf ≡ Fin (cap + 1) = same_bounds t u Inf (Fin (cap + 1)) X Y q r in cc

  -- one article
  same_article : (t u : Tables) (x y : Node) → ByTables t x → ByTables u y → x ≡ y
  same_article t u x y h g =
      one_chosen first second t.cap (costs_of first t) t.root x y h.2
      (subst (λ (z : Tables). IsChosenOf first second z y) (sym (one_tables first second root cap t u kept h.0 g.0)) g.2)

  same_verdict : (v w : Verdict) → Compared (Ok v) → Compared (Ok w) → v ≡ w
  same_verdict (Subset t) (Subset u) h g = ap (λ (z : Tables). Subset z) (one_tables first second root cap t u kept h.0 g.0)
  same_verdict (Subset t) (Not y c u) h g = absurd (not_subset t u y h.0 h.1 g.0)
  same_verdict (Subset t) (Over c u) h g = absurd (not_both t u h.0 h.1 g.0.0 g.0.1)
  same_verdict (Not x b t) (Subset u) h g = absurd (not_subset u t x g.0 g.1 h.0)
  same_verdict (Not x b t) (Not y c u) h g =
      let article = same_article t u x y h.0 g.0 in
      let broken = some_same b c (sym h.2 ∙ subst (λ (z : Node). IsBrokenAt second z c) (sym article) g.2) in
      ap (λ (z : Node). Not z b t) article ∙ ap (λ (z : BrokenDecl). Not y z t) broken ∙ ap (λ (z : Tables). Not y c z) (one_tables first second root cap t u kept h.0.0 g.0.0)
  same_verdict (Not x b t) (Over c u) h g = absurd (not_over u t x g.0.0 g.0.1 h.0)
  same_verdict (Over b t) (Subset u) h g = absurd (not_both u t g.0 g.1 h.0.0 h.0.1)
  same_verdict (Over b t) (Not y c u) h g = absurd (not_over t u y h.0.0 h.0.1 g.0)
  same_verdict (Over b t) (Over c u) h g =
      ap (λ (z : BrokenDecl). Over z t) (one_first_broken first second root b c h.1 g.1) ∙ ap (λ (z : Tables). Over c z) (one_tables first second root cap t u kept h.0.0 g.0.0)

  exact_in : (v : Verdict) → Compared (Ok v) → AreExact (tables_in v)
  exact_in (Subset t) h = h.0
  exact_in (Not x b t) h = h.0.0
  exact_in (Over b t) h = h.0.0

  -- an article that is shown is within the limit
  not_text_over : (v : Verdict) → Compared (Ok v) → Compared (Err TextOver) → ⊥
  not_text_over (Subset t) h g = not_subset t g.0 g.1 h.0 h.1 g.2
  not_text_over (Not x b t) h g =
      let small : text_size g.1 ≤ limit = subst (λ (z : Node). text_size z ≤ limit) (same_article t g.0 x g.1 h.0 g.2) h.1 in
      let large = g.3 in
      omega (arith, small, large)
  not_text_over (Over b t) h g = not_over t g.0 g.1 h.0.0 h.0.1 g.2

  no_fault : (v : Verdict) (f : CompareFault) → Compared (Ok v) → Compared (Err f) → (f ≡ NoMemory → ⊥) → ⊥
  no_fault v RootUndeclared h g n = not_undeclared (tables_in v) (exact_in v h) g
  no_fault v (PairsOver name) h g n = not_passing (tables_in v) (exact_in v h) name g.1
  no_fault v TextOver h g n = not_text_over v h g
  no_fault v NoMemory h g n = n refl

  same_fault : (f k : CompareFault) → Compared (Err f) → Compared (Err k) → (f ≡ NoMemory → ⊥) → (k ≡ NoMemory → ⊥) → f ≡ k
  same_fault RootUndeclared RootUndeclared h g n m = refl
  same_fault RootUndeclared (PairsOver b) h g n m = absurd (declared (content_in first root) g.0 h)
  same_fault RootUndeclared TextOver h g n m = absurd (not_undeclared g.0 g.2.0 h)
  same_fault RootUndeclared NoMemory h g n m = absurd (m refl)
  same_fault (PairsOver a) RootUndeclared h g n m = absurd (declared (content_in first root) h.0 g)
  same_fault (PairsOver a) (PairsOver b) h g n m = ap (λ (z : Chars). PairsOver z) (passes_once first second a b h.1 g.1)
  same_fault (PairsOver a) TextOver h g n m = absurd (not_passing g.0 g.2.0 a h.1)
  same_fault (PairsOver a) NoMemory h g n m = absurd (m refl)
  same_fault TextOver RootUndeclared h g n m = absurd (not_undeclared h.0 h.2.0 g)
  same_fault TextOver (PairsOver b) h g n m = absurd (not_passing h.0 h.2.0 b g.1)
  same_fault TextOver TextOver h g n m = refl
  same_fault TextOver NoMemory h g n m = absurd (m refl)
  same_fault NoMemory k h g n m = absurd (n refl)

  same_result : (result other : Result Verdict CompareFault) → Compared result → Compared other → (result ≡ Err NoMemory → ⊥) → (other ≡ Err NoMemory → ⊥) → result ≡ other
  same_result (Ok v) (Ok w) h g n m = ap (λ (z : Verdict). Ok z) (same_verdict v w h g)
  same_result (Ok v) (Err k) h g n m = absurd (no_fault v k h g (λ e. m (ap (λ (z : CompareFault). Err z) e)))
  same_result (Err f) (Ok w) h g n m = absurd (no_fault w f g h (λ e. n (ap (λ (z : CompareFault). Err z) e)))
  same_result (Err f) (Err k) h g n m =
      ap (λ (z : CompareFault). Err z) (same_fault f k h g (λ e. n (ap (λ (z : CompareFault). Err z) e)) (λ e. m (ap (λ (z : CompareFault). Err z) e)))

pub one_verdict : OneVerdict
one_verdict first second root cap limit result other kf ks h g n m = same_result first second root cap limit kf result other h g n m
