-- The first cause by which an element breaks.
use Rattle.std.proofs.Common.{◌≡◌, List, [], ◌∷◌, ℕ, length, true, false, Option, Some, None, Ok, Err, MatchOption, inl, inr, ◌⊎◌, refl, sym, ◌∙◌, subst, arith}
use Rattle.std.specs.Prelude.{option_map}
use Rattle.std.specs.List.{list_all, AllByRecursion}
use Rattle.std.proofs.lemmas.Bool.{and_parts, and_from, both_ways}
use Rattle.content_models.specs.declared.content.Content.{Content}
use Rattle.content_models.specs.Model.{Chars, among}
use Rattle.attlist_merge.specs.Lists.{Definitions}
use Rattle.decl_set.specs.Declarations.{Declarations, content_in, attributes_in}
use Rattle.decl_set.specs.Validity.{HasDocument}
use Rattle.decl_set.specs.Oddness.{odd_by, odd_in}
use Rattle.decl_set.specs.Breaks.{ContentBreaks, BothBreak, cause_of, BreaksBy}
use Rattle.decl_set.specs.declared.breaks.Cause.{Cause}
use Rattle.decl_set.specs.declared.breaks.Cause.TheVariants as cause
use Rattle.decl_set.specs.declared.breaks.Odd.{Odd}
use Rattle.decl_set.specs.declared.breaks.Odd.TheVariants as odd
use Rattle.model_inclusion.specs.declared.fault.PairFault.{PairFault}
use Rattle.model_inclusion.specs.declared.fault.PairFault.TheVariants as fault
use Rattle.model_inclusion.specs.declared.side.Compared.{Compared}
use Rattle.model_inclusion.specs.Listed as names
use Rattle.model_inclusion.specs.Included.{Separates, Compares}
use Rattle.tagset_report.specs.Judged.{Judges}
use Rattle.tagset_report.specs.Live.{AreLive, IsListed, AreListed}
use Rattle.tagset_report.specs.Reported.{CountsPairs}

-- ---- names that are live are those with documents

module _ (first : Declarations) (live : List Chars) (h : AreLive first live) where
  pub each_to : (ns : List Chars) → list_all (among live) ns ≡ true → AllByRecursion (HasDocument first) ns
  each_to [] t = tt
  each_to (n ∷ ns) t = let p = and_parts (among live n) (list_all (among live) ns) t in ((h n).0 p.0, each_to ns p.1)

  pub each_from : (ns : List Chars) → AllByRecursion (HasDocument first) ns → list_all (among live) ns ≡ true
  each_from [] d = refl
  each_from (n ∷ ns) d = and_from (among live n) (list_all (among live) ns) ((h n).1 d.0) (each_from ns d.1)

  listed_to : (a b : Content) (i j : ℕ) → names.IsListed live a b i j → IsListed first a b i j
  listed_to a b i j l = (l.0, each_to l.0 l.1, l.2, l.3)

  listed_from : (a b : Content) (i j : ℕ) → IsListed first a b i j → names.IsListed live a b i j
  listed_from a b i j l = (l.0, each_from l.0 l.1, l.2, l.3)

  pub are_listed : (a b : Content) (pairs : List (ℕ × ℕ)) → names.ArePairs live a b pairs → AreListed first a b pairs
  are_listed a b pairs p = record {
    ascending = p.ascending;
    listed = λ i j. ((λ c. listed_to a b i j ((p.listed i j).0 c)), (λ l. (p.listed i j).1 (listed_from a b i j l)));
  }

  breaks_to : (a b : Content) → Separates live a b → ContentBreaks first a b
  breaks_to a b s = (s.0, each_to s.0 s.1, s.2, s.3)

  breaks_from : (a b : Content) → ContentBreaks first a b → Separates live a b
  breaks_from a b s = (s.0, each_from s.0 s.1, s.2, s.3)

-- ---- causes

never_content : (x : Option Odd) → option_map cause_of x ≡ Some cause.Content → ⊥
never_content None h = cc
never_content (Some odd.Undeclared) h = cc
never_content (Some odd.Text) h = cc
never_content (Some (odd.Attribute o)) h = cc

module _ (first : Declarations) (a b : Option Content) (list other : Definitions) where
  -- a cause is that of the content, or of what is odd where the content does not break
  pub seen_cause : (k : Cause) → BreaksBy first a b list other k → (BothBreak first a b × (k ≡ cause.Content)) ⊎ ((BothBreak first a b → ⊥) × (option_map cause_of (odd_by a b list other) ≡ Some k))
  seen_cause cause.Undeclared h = inr h
  seen_cause cause.Content h = inl (h, refl)
  seen_cause cause.Text h = inr h
  seen_cause (cause.Attribute name) h = inr h

  from_odd : (k : Cause) → (BothBreak first a b → ⊥) → option_map cause_of (odd_by a b list other) ≡ Some k → BreaksBy first a b list other k
  from_odd cause.Undeclared n e = (n, e)
  from_odd cause.Content n e = absurd (never_content (odd_by a b list other) e)
  from_odd cause.Text n e = (n, e)
  from_odd (cause.Attribute name) n e = (n, e)

  pub one_cause : (k l : Cause) → BreaksBy first a b list other k → BreaksBy first a b list other l → k ≡ l
  one_cause k l h g = by (seen_cause k h) (seen_cause l g)
    where
      by : (BothBreak first a b × (k ≡ cause.Content)) ⊎ ((BothBreak first a b → ⊥) × (option_map cause_of (odd_by a b list other) ≡ Some k))
          → (BothBreak first a b × (l ≡ cause.Content)) ⊎ ((BothBreak first a b → ⊥) × (option_map cause_of (odd_by a b list other) ≡ Some l)) → k ≡ l
      by (inl x) (inl y) = x.1 ∙ sym y.1
      by (inl x) (inr y) = absurd (y.0 x.0)
      by (inr x) (inl y) = absurd (x.0 y.0)
      by (inr x) (inr y) = let e : Some k ≡ Some l = sym x.1 ∙ y.1 in cc

  caused : (x : Option Cause) → x ≡ option_map cause_of (odd_by a b list other) → (BothBreak first a b → ⊥)
      → MatchOption x ((k : Cause) → BreaksBy first a b list other k → ⊥) (λ k. BreaksBy first a b list other k)
  caused None e n = λ k h. by k (seen_cause k h)
    where
      by : (k : Cause) → (BothBreak first a b × (k ≡ cause.Content)) ⊎ ((BothBreak first a b → ⊥) × (option_map cause_of (odd_by a b list other) ≡ Some k)) → ⊥
      by k (inl x) = n x.0
      by k (inr x) = let z : None ≡ Some k = e ∙ x.1 in cc
  caused (Some k) e n = from_odd k n (sym e)

module _ (first second : Declarations) (name : Chars) (a : Content) (left : ℕ) (at : content_in first name ≡ Some a) where
  pub judged_none : (x : Option Cause) → content_in second name ≡ None → x ≡ option_map cause_of (odd_in first second name)
      → Judges first second name a left (Ok (record { pairs = 0; cause = x }))
  judged_none x none e = (
    subst (λ (o : Option Content). CountsPairs first a o 0) (sym none) refl,
    omega arith,
    caused first (content_in first name) (content_in second name) (attributes_in first name) (attributes_in second name) x e
        (λ h. subst (λ (o : Option Content). BothBreak first o None) at (subst (λ (o : Option Content). BothBreak first (content_in first name) o) none h)),
  )

  module _ (live : List Chars) (h : AreLive first live) (b : Content) (other : content_in second name ≡ Some b) where
    counted : (pairs : List (ℕ × ℕ)) (n : ℕ) → names.ArePairs live a b pairs → n ≡ length pairs → CountsPairs first a (content_in second name) n
    counted pairs n p e = subst (λ (o : Option Content). CountsPairs first a o n) (sym other) (pairs, are_listed first live h a b pairs p, e)

    pub judged_content : (c : Compared) → Compares live a b left (Ok c) → c.separates ≡ true → Judges first second name a left (Ok (record { pairs = c.pairs; cause = Some cause.Content }))
    judged_content c k t = (
      counted k.0.0 c.pairs k.0.1 k.0.2,
      k.1,
      subst (λ (o : Option Content). BothBreak first o (content_in second name)) (sym at)
          (subst (λ (o : Option Content). BothBreak first (Some a) o) (sym other) (breaks_to first live h a b (k.2.0 t))),
    )

    pub judged_odd : (c : Compared) (x : Option Cause) → Compares live a b left (Ok c) → c.separates ≡ false → x ≡ option_map cause_of (odd_in first second name)
        → Judges first second name a left (Ok (record { pairs = c.pairs; cause = x }))
    judged_odd c x k f e = (
      counted k.0.0 c.pairs k.0.1 k.0.2,
      k.1,
      caused first (content_in first name) (content_in second name) (attributes_in first name) (attributes_in second name) x e
          (λ z. both_ways c.separates f (k.2.1 (breaks_from first live h a b
          (subst (λ (o : Option Content). BothBreak first (Some a) o) other (subst (λ (o : Option Content). BothBreak first o (content_in second name)) at z))))),
    )

    pub judged_fault : (f : PairFault) → Compares live a b left (Err f) → Judges first second name a left (Err f)
    judged_fault fault.PairsOver k = (length k.0, counted k.0 (length k.0) k.1 refl, k.2)
    judged_fault fault.NoMemory k = tt
