-- What is listed first, and what the count of useful elements says.
use Rattle.std.proofs.Common.{◌≡◌, ◌<◌, ℕ, zero, suc, List, [], ◌∷◌, ◌++◌, Bool, true, ◌||◌, refl, sym, subst, inl, inr, arith, bytes_eq}
use Rattle.std.specs.List.{AllByRecursion}
use Rattle.content_models.specs.declared.content.Content.{Content}
use Rattle.content_models.specs.Model.{Chars}
use Rattle.document_trees.specs.Trees.{stands_below}
use Rattle.attribute_types.proofs.TextTests.{bytes_own}
use Rattle.decl_set.specs.Declarations.{Declarations, Element}
use Rattle.decl_set.specs.Validity.{HasDocument, IsUseful}
use Rattle.decl_set.specs.Breaks.{Breaks, IsKept}
use Rattle.decl_set.specs.declared.breaks.BrokenDecl.{BrokenDecl}
use Rattle.decl_set.proofs.Found.{all_found}
use Rattle.tagset_report.specs.Firsts.{FirstListed, SeparatedByBreaks, DocumentsByUseful}
use Rattle.tagset_report.specs.Reported.{ListsBroken, CountsUseful}
use Rattle.tagset_report.proofs.Broken.{declared}
use Rattle.tagset_report.proofs.Subsets.{separated}

module _ (first second : Declarations) (root : Chars) where
  -- it is the first of these elements that is useful and breaks
  abbrev FirstAmong : List Element → BrokenDecl → Type 0
  FirstAmong es b =
      (before : List Element) × (a : Content) × (after : List Element) × (es ≡ before ++ (b.element, a) ∷ after) × AllByRecursion (IsKept first second root) before
      × IsUseful first root b.element × Breaks first second b.element b.cause

  first_among : (es : List Element) (b : BrokenDecl) (rest : List BrokenDecl) → ListsBroken first second root es (b ∷ rest) → FirstAmong es b
  first_among [] b rest h = cc
  first_among (x ∷ es) b rest (inl h) =
      let t = first_among es b rest h.1 in
      let place : x ∷ es ≡ (x ∷ t.0) ++ (b.element, t.1) ∷ t.2 = (let e = t.3 in cc) in
      (x ∷ t.0, t.1, t.2, place, (h.0, t.4), t.5, t.6)
  first_among (x ∷ es) b rest (inr h) =
      let same : b ≡ record { element = x.0; cause = h.0 } = (let e = h.4 in cc) in
      subst (FirstAmong (x ∷ es)) (sym same) ([], x.1, es, refl, tt, h.2, h.3)

module _ (first : Declarations) (root : Chars) where
  abbrev IsUseless : Element → Type 0
  IsUseless e = IsUseful first root e.0 → ⊥

  none_useful : (es : List Element) → CountsUseful first root es 0 → AllByRecursion IsUseless es
  none_useful [] h = tt
  none_useful (x ∷ es) (inl h) = absurd (let e = h.1.1 in omega (arith, e))
  none_useful (x ∷ es) (inr h) = (h.0, none_useful es h.1)

  some_useful : (es : List Element) (n : ℕ) → CountsUseful first root es n → 0 < n → HasDocument first root
  some_useful [] n h l = absurd (let e : n ≡ 0 = h in omega (arith, e))
  some_useful (x ∷ es) n (inl h) l = let u = h.0 in (u.0, u.1, u.2)
  some_useful (x ∷ es) n (inr h) l = some_useful es n h.1 l

  root_useful : HasDocument first root → IsUseful first root root
  root_useful d =
      let node = d.0 in
      let own : bytes_eq root node.name ≡ true = subst (λ (x : Chars). bytes_eq root x ≡ true) (sym d.2.0) (bytes_own root) in
      (node, d.1, d.2, subst (λ (b : Bool). (b || stands_below root node.items) ≡ true) (sym own) refl)

  is_counted : (n : ℕ) → CountsUseful first root first.elements n → HasDocument first root → 0 < n
  is_counted zero h d =
      let a = declared first root d in
      absurd (all_found IsUseless first.elements root a.0 (none_useful first.elements h) a.1 (root_useful d))
  is_counted (suc n) h d = omega arith

pub first_listed : FirstListed
first_listed first second root b rest h =
    let t = first_among first second root first.elements b rest h in
    record { before = t.0; declared = t.1; after = t.2; place = t.3; kept = t.4; useful = t.5; breaks = t.6 }

pub separated_by_breaks : SeparatedByBreaks
separated_by_breaks first second root e k kf ks u b = separated first second kf ks root e k u b

pub documents_by_useful : DocumentsByUseful
documents_by_useful first root n h = (some_useful first root first.elements n h, is_counted first root n h)
