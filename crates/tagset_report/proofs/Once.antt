-- A report is one: no two answers can be given.
use Rattle.std.proofs.Common.{◌≡◌, ◌≤◌, ◌+◌, ℕ, List, [], ◌∷◌, ◌++◌, length, Option, Some, None, Ok, Err, IsTrue, ◌⊎◌, inl, inr, refl, sym, ap, ◌∙◌, subst, arith, true≢false}
use Rattle.std.specs.Prelude.{is_some}
use Rattle.content_models.specs.declared.content.Content.{Content}
use Rattle.content_models.specs.Model.{Chars}
use Rattle.decl_set.specs.Declarations.{Declarations, Element, content_in}
use Rattle.decl_set.specs.declared.breaks.BrokenDecl.{BrokenDecl}
use Rattle.model_inclusion.proofs.Members.{to_member, contains_of}
use Rattle.model_inclusion.proofs.Unique.{same_pairs}
use Rattle.tagset_report.specs.declared.fault.ReportFault.{ReportFault}
use Rattle.tagset_report.specs.declared.fault.ReportFault.TheVariants.{RootUndeclared, PairsOver, NoMemory}
use Rattle.tagset_report.specs.declared.outcome.Report.{Report}
use Rattle.tagset_report.specs.Live.{AreListed}
use Rattle.tagset_report.specs.Reported.{CountsUseful, CountsPairs, SumsPairs, PassesAt, IsReported, Reports, OneReport}
use Rattle.tagset_report.proofs.Broken.{one_broken}

-- ---- counts are one

pub listed_once : (first : Declarations) (a b : Content) (ps qs : List (ℕ × ℕ)) → AreListed first a b ps → AreListed first a b qs → ps ≡ qs
listed_once first a b ps qs p q =
    same_pairs ps qs p.ascending q.ascending
    (λ r m. to_member qs r ((q.listed r.0 r.1).1 ((p.listed r.0 r.1).0 (contains_of ps r m))))
    (λ r m. to_member ps r ((p.listed r.0 r.1).1 ((q.listed r.0 r.1).0 (contains_of qs r m))))

pairs_once : (first : Declarations) (a : Content) (o : Option Content) (n m : ℕ) → CountsPairs first a o n → CountsPairs first a o m → n ≡ m
pairs_once first a None n m h g = h ∙ sym g
pairs_once first a (Some b) n m h g = h.2 ∙ ap length (listed_once first a b h.0 g.0 h.1 g.1) ∙ sym g.2

module _ (first second : Declarations) where
  sums_once : (es : List Element) (n m : ℕ) → SumsPairs first second es n → SumsPairs first second es m → n ≡ m
  sums_once [] n m h g = h ∙ sym g
  sums_once (x ∷ es) n m h g =
      let k = pairs_once first x.1 (content_in second x.0) h.0 g.0 h.2 g.2 in
      let r = sums_once es h.1 g.1 h.3 g.3 in
      omega (arith, k, r, h.4, g.4)

  useful_once : (root : Chars) (es : List Element) (n m : ℕ) → CountsUseful first root es n → CountsUseful first root es m → n ≡ m
  useful_once root [] n m h g = h ∙ sym g
  useful_once root (x ∷ es) n m (inl h) (inl g) = let r = useful_once root es h.1.0 g.1.0 h.1.2 g.1.2 in omega (arith, r, h.1.1, g.1.1)
  useful_once root (x ∷ es) n m (inl h) (inr g) = absurd (g.0 h.0)
  useful_once root (x ∷ es) n m (inr h) (inl g) = absurd (h.0 g.0)
  useful_once root (x ∷ es) n m (inr h) (inr g) = useful_once root es n m h.1 g.1

  -- ---- the sum passes at one element

  -- the sum of the elements up to one is no more than that of all
  past_sum : (es : List Element) (x : Element) (rest : List Element) (n k m : ℕ) → SumsPairs first second es n → CountsPairs first x.1 (content_in second x.0) k
      → SumsPairs first second (es ++ x ∷ rest) m → n + k ≤ m
  past_sum [] x rest n k m h c g =
      let s = pairs_once first x.1 (content_in second x.0) k g.0 c g.2 in
      omega (arith, h, s, g.4)
  past_sum (y ∷ es) x rest n k m h c g =
      let s = pairs_once first y.1 (content_in second y.0) h.0 g.0 h.2 g.2 in
      let r = past_sum es x rest h.1 k g.1 h.3 c g.3 in
      omega (arith, s, r, h.4, g.4)

  -- of two places in one list the elements are the same, or one stands after the other
  Apart : List Element → Element → List Element → Element → Type 0
  Apart before x before' x' = (x ≡ x') ⊎ (((rest : List Element) × (before' ≡ before ++ x ∷ rest)) ⊎ ((rest : List Element) × (before ≡ before' ++ x' ∷ rest)))

  heads : (y z : Element) (ys zs : List Element) → y ∷ ys ≡ z ∷ zs → (y ≡ z) × (ys ≡ zs)
  heads y z ys zs h = (cc, cc)

  apart : (before : List Element) (x : Element) (after before' : List Element) (x' : Element) (after' : List Element) → before ++ x ∷ after ≡ before' ++ x' ∷ after' → Apart before x before' x'
  unfolding Apart
  apart [] x after [] x' after' h = inl (heads x x' after after' h).0
  apart [] x after (y ∷ ys) x' after' h = inr (inl (ys, ap (λ (z : Element). z ∷ ys) (sym (heads x y after (ys ++ x' ∷ after') h).0)))
  apart (y ∷ ys) x after [] x' after' h = inr (inr (ys, ap (λ (z : Element). z ∷ ys) (heads y x' (ys ++ x ∷ after) after' h).0))
  apart (y ∷ ys) x after (z ∷ zs) x' after' h = by (heads y z (ys ++ x ∷ after) (zs ++ x' ∷ after') h) (apart ys x after zs x' after' (heads y z (ys ++ x ∷ after) (zs ++ x' ∷ after') h).1)
    where
      by : (y ≡ z) × (ys ++ x ∷ after ≡ zs ++ x' ∷ after') → (x ≡ x') ⊎ (((rest : List Element) × (zs ≡ ys ++ x ∷ rest)) ⊎ ((rest : List Element) × (ys ≡ zs ++ x' ∷ rest)))
          → (x ≡ x') ⊎ (((rest : List Element) × (z ∷ zs ≡ y ∷ ys ++ x ∷ rest)) ⊎ ((rest : List Element) × (y ∷ ys ≡ z ∷ zs ++ x' ∷ rest)))
      by e (inl q) = inl q
      by e (inr (inl t)) = inr (inl (t.0, ap (λ (w : Element). w ∷ zs) (sym e.0) ∙ ap (λ (w : List Element). y ∷ w) t.1))
      by e (inr (inr t)) = inr (inr (t.0, ap (λ (w : Element). w ∷ ys) e.0 ∙ ap (λ (w : List Element). z ∷ w) t.1))

  -- what passes at an element does not stay within after it
  pub not_later : (name : Chars) (p : PassesAt first second name) (others rest : List Element) (m : ℕ) → others ≡ p.before ++ (name, p.declared) ∷ rest → SumsPairs first second others m
      → m ≤ 2000000 → ⊥
  not_later name p others rest m e s l =
      let k = past_sum p.before (name, p.declared) rest p.sum p.more m p.sums p.counts (subst (λ (z : List Element). SumsPairs first second z m) e s) in
      omega (arith, k, l, p.over)

  pub passes_once : (n m : Chars) → PassesAt first second n → PassesAt first second m → n ≡ m
  unfolding Apart
  passes_once n m p q = by (apart p.before (n, p.declared) p.after q.before (m, q.declared) q.after (sym p.place ∙ q.place))
    where
      by : (◌≡◌ {A = Element} (n, p.declared) (m, q.declared)) ⊎ (((rest : List Element) × (q.before ≡ p.before ++ (n, p.declared) ∷ rest)) ⊎ ((rest : List Element) × (p.before ≡ q.before ++ (m, q.declared) ∷ rest))) → n ≡ m
      by (inl e) = ap (λ (z : Element). z.0) e
      by (inr (inl t)) = absurd (not_later n p q.before t.0 q.sum t.1 q.sums q.within)
      by (inr (inr t)) = absurd (not_later m q p.before t.0 p.sum t.1 p.sums p.within)

-- ---- answers

undeclared : (o : Option Content) → IsTrue (is_some o) → o ≡ None → ⊥
undeclared o h e = true≢false (sym h ∙ ap is_some e)

not_passing : (first second : Declarations) (root name : Chars) (report : Report) → IsReported first second root report → PassesAt first second name → ⊥
not_passing first second root name report r p = not_later first second name p first.elements p.after r.sum p.place r.sums r.within

same_report : (first second : Declarations) (root : Chars) (r s : Report) → IsReported first second root r → IsReported first second root s → r ≡ s
same_report first second root r s h g =
    ap (λ (n : ℕ). record { useful = n; differs = r.differs }) (useful_once first second root first.elements r.useful s.useful h.useful g.useful)
    ∙ ap (λ (b : List BrokenDecl). record { useful = s.useful; differs = b }) (one_broken first second root first.elements r.differs s.differs h.differs g.differs)

same_fault : (first second : Declarations) (root : Chars) (f g : ReportFault) → Reports first second root (Err f) → Reports first second root (Err g)
    → (f ≡ NoMemory → ⊥) → (g ≡ NoMemory → ⊥) → f ≡ g
same_fault first second root RootUndeclared RootUndeclared h k n m = refl
same_fault first second root RootUndeclared (PairsOver b) h k n m = absurd (undeclared (content_in first root) k.0 h)
same_fault first second root (PairsOver a) RootUndeclared h k n m = absurd (undeclared (content_in first root) h.0 k)
same_fault first second root (PairsOver a) (PairsOver b) h k n m = ap (λ (z : Chars). PairsOver z) (passes_once first second a b h.1 k.1)
same_fault first second root NoMemory g h k n m = absurd (n refl)
same_fault first second root RootUndeclared NoMemory h k n m = absurd (m refl)
same_fault first second root (PairsOver a) NoMemory h k n m = absurd (m refl)

not_both : (first second : Declarations) (root : Chars) (r : Report) (f : ReportFault) → Reports first second root (Ok r) → Reports first second root (Err f) → (f ≡ NoMemory → ⊥) → ⊥
not_both first second root r RootUndeclared h k n = undeclared (content_in first root) h.declared k
not_both first second root r (PairsOver a) h k n = not_passing first second root a r h k.1
not_both first second root r NoMemory h k n = n refl

pub one_report : OneReport
one_report first second root (Ok r) (Ok s) h k n m = ap (λ (z : Report). Ok z) (same_report first second root r s h k)
one_report first second root (Ok r) (Err g) h k n m = absurd (not_both first second root r g h k (λ e. m (ap (λ (z : ReportFault). Err z) e)))
one_report first second root (Err f) (Ok s) h k n m = absurd (not_both first second root s f k h (λ e. n (ap (λ (z : ReportFault). Err z) e)))
one_report first second root (Err f) (Err g) h k n m =
    ap (λ (z : ReportFault). Err z) (same_fault first second root f g h k (λ e. n (ap (λ (z : ReportFault). Err z) e)) (λ e. m (ap (λ (z : ReportFault). Err z) e)))
