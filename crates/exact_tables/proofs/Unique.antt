-- Two sets have one table of exact costs.
use Rattle.std.proofs.Common.{◌≡◌, sym, ◌∙◌, subst}
use Rattle.content_models.specs.Model.{Chars}
use Rattle.tree_costs.specs.Costs.{IsLeast}
use Rattle.tree_costs.specs.Families.{OfDocument, OfNames}
use Rattle.exact_tables.specs.Families.{OfSeparating, OfOneName, OfOddNames}
use Rattle.exact_tables.specs.Laws.{OneExact, ExactIsOwn, AgreeingIsExact}
use Rattle.tree_costs.proofs.Costs.{least-one}

pub one_exact : OneExact
one_exact first second cap c d x y = record {
  m = m;
  v = v;
  p = λ e a i q. least-one (OfNames cap c.m a i) (c.p e i) (d.p e i) (x.p e a i q) (subst (λ k. IsLeast (OfNames cap k a i) (d.p e i)) (sym ms) (y.p e a i q));
  f = λ e a i q. least-one (OfOneName cap c.m c.v a i) (c.f e i) (d.f e i) (x.f e a i q)
      (subst (λ k. IsLeast (OfOneName cap k c.v a i) (d.f e i)) (sym ms) (subst (λ k. IsLeast (OfOneName cap d.m k a i) (d.f e i)) (sym vs) (y.f e a i q)));
  g = λ e a b i j q r l. least-one (OfOddNames cap c.m a b i j) (c.g e i j) (d.g e i j) (x.g e a b i j q r l)
      (subst (λ k. IsLeast (OfOddNames cap k a b i j) (d.g e i j)) (sym ms) (y.g e a b i j q r l));
  unlisted = λ e a b i j q r l. x.unlisted e a b i j q r l ∙ sym (y.unlisted e a b i j q r l);
}
  where
    m : (e : Chars) → c.m e ≡ d.m e
    m e = least-one (OfDocument cap first e) (c.m e) (d.m e) (x.m e) (y.m e)

    v : (e : Chars) → c.v e ≡ d.v e
    v e = least-one (OfSeparating cap first second e) (c.v e) (d.v e) (x.v e) (y.v e)

    ms : c.m ≡ d.m
    ms = λ i e. m e i

    vs : c.v ≡ d.v
    vs = λ i e. v e i

pub exact_is_own : ExactIsOwn
exact_is_own first second cap c X = record { sizes = X.m; sums = X.p }

pub agreeing_is_exact : AgreeingIsExact
agreeing_is_exact first second cap c d x y = record {
  m = λ e. subst (IsLeast (OfDocument cap first e)) (y.m e) (x.m e);
  v = λ e. subst (IsLeast (OfSeparating cap first second e)) (y.v e) (x.v e);
  p = λ e a i q. subst (λ k. IsLeast (OfNames cap k a i) (d.p e i)) ms (subst (IsLeast (OfNames cap c.m a i)) (y.p e a i q) (x.p e a i q));
  f = λ e a i q. subst (λ k. IsLeast (OfOneName cap k d.v a i) (d.f e i)) ms
      (subst (λ k. IsLeast (OfOneName cap c.m k a i) (d.f e i)) vs (subst (IsLeast (OfOneName cap c.m c.v a i)) (y.f e a i q) (x.f e a i q)));
  g = λ e a b i j q r l. subst (λ k. IsLeast (OfOddNames cap k a b i j) (d.g e i j)) ms
      (subst (IsLeast (OfOddNames cap c.m a b i j)) (y.g e a b i j q r l) (x.g e a b i j q r l));
  unlisted = λ e a b i j q r l. sym (y.unlisted e a b i j q r l) ∙ x.unlisted e a b i j q r l;
}
  where
    ms : c.m ≡ d.m
    ms = λ i e. y.m e i

    vs : c.v ≡ d.v
    vs = λ i e. y.v e i
