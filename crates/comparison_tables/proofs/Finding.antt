-- The sides of elements, and where the listed pairs are too many.
use Rattle.std.proofs.Common.{◌≡◌, ◌≤◌, ◌+◌, ◌-◌, ℕ, zero, suc, List, [], ◌∷◌, ◌++◌, length, take, drop, Bool, Option, Some, None, Ok, Err, slice_get, refl, sym, ap, ◌∙◌, subst, arith}
use Rattle.std.specs.Prelude.{is_some}
use Rattle.content_models.specs.declared.content.Content.{Content}
use Rattle.content_models.specs.Model.{Chars}
use Rattle.decl_set.specs.Declarations.{Declarations, Element, content_in}
use Rattle.decl_set.specs.Oddness.{odd_in}
use Rattle.model_inclusion.specs.declared.fault.PairFault.TheVariants as pair
use Rattle.model_inclusion.specs.Listed.{ListsPairs}
use Rattle.tagset_report.specs.Live.{AreLive}
use Rattle.tagset_report.specs.Reported.{CountsPairs, SumsPairs, PassesAt}
use Rattle.tagset_report.proofs.Judging.{are_listed}
use Rattle.comparison_tables.specs.declared.sides.Side.{Side}
use Rattle.comparison_tables.specs.declared.fault.TablesFault.{TablesFault}
use Rattle.comparison_tables.specs.declared.fault.TablesFault.TheVariants as fault
use Rattle.comparison_tables.specs.Finding.{PassesBy, FindsSide, FindsSides, AreFound, FindsAll}
use Rattle.comparison_tables.specs.Sides.{ArePairsOf, IsSide, FitSides}

-- ---- one element

module _ (first second : Declarations) (name : Chars) (a : Content) (left : ℕ) (few : left ≤ 2000000) (odd : Bool) (is_odd : odd ≡ is_some (odd_in first second name)) where
  pub none_found : None ≡ content_in second name → IsSide first second (name, a) (record { odd = odd; pairs = [] })
  none_found h = record { odd = is_odd; pairs = subst (λ (o : Option Content). ArePairsOf first a o []) h refl; few = omega arith }

  module _ (live : List Chars) (L : AreLive first live) (b : Content) (other : Some b ≡ content_in second name) where
    pub pairs_found : (pairs : List (ℕ × ℕ)) → ListsPairs live a b left (Ok pairs) → IsSide first second (name, a) (record { odd = odd; pairs = pairs })
    pairs_found pairs h = record {
      odd = is_odd;
      pairs = subst (λ (o : Option Content). ArePairsOf first a o pairs) other (are_listed first live L a b pairs h.0);
      few = omega (arith, h.1);
    }

    pub passed : ListsPairs live a b left (Err pair.PairsOver) → PassesBy first second name a left
    passed h = (length h.0, subst (λ (o : Option Content). CountsPairs first a o (length h.0)) other (h.0, are_listed first live L a b h.0 h.1, refl), h.2)

-- ---- one more element

take_more : {A : Type 0} (xs : List A) (k : ℕ) (x : A) → slice_get xs k ≡ Some x → take (suc k) xs ≡ take k xs ++ x ∷ []
take_more [] k x h = cc
take_more (y ∷ ys) zero x h = let e : y ≡ x = cc in ap (λ z. z ∷ []) e
take_more (y ∷ ys) (suc k) x h = ap (λ z. y ∷ z) (take_more ys k x h)

split : {A : Type 0} (xs : List A) (k : ℕ) (x : A) → slice_get xs k ≡ Some x → xs ≡ take k xs ++ x ∷ drop (suc k) xs
split [] k x h = cc
split (y ∷ ys) zero x h = let e : y ≡ x = cc in ap (λ z. z ∷ ys) e
split (y ∷ ys) (suc k) x h = ap (λ z. y ∷ z) (split ys k x h)

pub one_longer : {A : Type 0} (xs : List A) (y : A) → length (xs ++ y ∷ []) ≡ suc (length xs)
one_longer [] y = refl
one_longer (x ∷ xs) y = ap suc (one_longer xs y)

take_all : {A : Type 0} (xs : List A) (k : ℕ) → slice_get xs k ≡ None → take k xs ≡ xs
take_all [] zero h = refl
take_all [] (suc k) h = refl
take_all (x ∷ xs) zero h = cc
take_all (x ∷ xs) (suc k) h = ap (λ z. x ∷ z) (take_all xs k h)

module _ (first second : Declarations) where
  fit_more : (es : List Element) (sides : List Side) (e : Element) (side : Side) → FitSides first second es sides → IsSide first second e side
      → FitSides first second (es ++ e ∷ []) (sides ++ side ∷ [])
  fit_more [] [] e side f h = (h, tt)
  fit_more [] (s ∷ sides) e side f h = elim f [ ]
  fit_more (x ∷ es) [] e side f h = elim f [ ]
  fit_more (x ∷ es) (s ∷ sides) e side f h = (f.0, fit_more es sides e side f.1 h)

  sums_more : (es : List Element) (e : Element) (n k : ℕ) → SumsPairs first second es n → CountsPairs first e.1 (content_in second e.0) k → SumsPairs first second (es ++ e ∷ []) (n + k)
  sums_more [] e n k s c = (k, 0, c, refl, omega (arith, s))
  sums_more (x ∷ es) e n k s c = (s.0, s.1 + k, s.2, sums_more es e s.1 k s.3 c, omega (arith, s.4))

  -- how many pairs an element has
  counted : (a : Content) (o : Option Content) (pairs : List (ℕ × ℕ)) → ArePairsOf first a o pairs → CountsPairs first a o (length pairs)
  counted a None pairs h = ap length h
  counted a (Some b) pairs h = (pairs, h, refl)

  pub none_yet : AreFound first second [] 2000000
  none_yet = record { sides_are = by first.elements; sum = 0; sums = sums first.elements; rest = omega arith }
    where
      by : (es : List Element) → FitSides first second (take 0 es) []
      by [] = tt
      by (e ∷ es) = tt

      sums : (es : List Element) → SumsPairs first second (take 0 es) 0
      sums [] = refl
      sums (e ∷ es) = refl

  pub one_more : (left : ℕ) (sides : List Side) (e : Element) (side : Side) → AreFound first second sides left → Some e ≡ slice_get first.elements (length sides)
      → IsSide first second e side → length side.pairs ≤ left → AreFound first second (sides ++ side ∷ []) (left - length side.pairs)
  one_more left sides e side A h s l =
      let n = length sides in
      let t = sym (ap (λ k. take k first.elements) (one_longer sides side) ∙ take_more first.elements n e (sym h)) in
      record {
        sides_are = subst (λ (es : List Element). FitSides first second es (sides ++ side ∷ [])) t (fit_more (take n first.elements) sides e side A.sides_are s);
        sum = A.sum + length side.pairs;
        sums = subst (λ (es : List Element). SumsPairs first second es (A.sum + length side.pairs)) t
            (sums_more (take n first.elements) e A.sum (length side.pairs) A.sums (counted e.1 (content_in second e.0) side.pairs s.pairs));
        rest = omega (arith, A.rest);
      }

  pub passes : (left : ℕ) (sides : List Side) (name : Chars) (a : Content) → AreFound first second sides left → Some (name, a) ≡ slice_get first.elements (length sides)
      → PassesBy first second name a left → PassesAt first second name
  passes left sides name a A h p = record {
    before = take (length sides) first.elements;
    declared = a;
    after = drop (suc (length sides)) first.elements;
    place = split first.elements (length sides) (name, a) (sym h);
    sum = A.sum;
    sums = A.sums;
    within = omega (arith, A.rest);
    more = p.0;
    counts = p.1;
    over = omega (arith, A.rest, p.2);
  }

  pub all_found : (left : ℕ) (sides : List Side) → AreFound first second sides left → None ≡ slice_get first.elements (length sides) → FindsAll first second sides
  all_found left sides A h =
      let t = take_all first.elements (length sides) (sym h) in
      record {
        sides_are = subst (λ (es : List Element). FitSides first second es sides) t A.sides_are;
        sum = A.sum;
        sums = subst (λ (es : List Element). SumsPairs first second es A.sum) t A.sums;
        within = omega (arith, A.rest);
      }

  -- what an element's fault says of all
  pub fault_is : (left : ℕ) (sides : List Side) (name : Chars) (a : Content) (f : TablesFault) → AreFound first second sides left
      → Some (name, a) ≡ slice_get first.elements (length sides) → FindsSide first second name a left (Err f) → FindsSides first second (Err f)
  fault_is left sides name a (fault.PairsOver other) A h p = subst (λ (z : Chars). PassesAt first second z) (sym p.0) (passes left sides name a A h p.1)
  fault_is left sides name a fault.NoMemory A h p = tt
