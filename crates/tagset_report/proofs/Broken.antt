-- What is listed, and what it says.
use Rattle.std.proofs.Common.{◌≡◌, List, [], ◌∷◌, Some, inl, inr, sym, ap, ◌∙◌, subst}
use Rattle.std.specs.List.{AllByRecursion}
use Rattle.content_models.specs.declared.content.Content.{Content}
use Rattle.content_models.specs.Model.{Chars}
use Rattle.decl_set.specs.Declarations.{Declarations, Element, content_in, attributes_in}
use Rattle.decl_set.specs.Validity.{HasDocument}
use Rattle.decl_set.specs.Breaks.{Breaks, IsKept}
use Rattle.decl_set.specs.declared.breaks.Cause.{Cause}
use Rattle.decl_set.specs.declared.breaks.BrokenDecl.{BrokenDecl}
use Rattle.decl_set.proofs.Found.{all_found}
use Rattle.decl_set.proofs.Suiting.{met}
use Rattle.tagset_report.specs.Laws.{NoneBreaks}
use Rattle.tagset_report.specs.Reported.{ListsBroken, NoneListed, OneBroken}
use Rattle.tagset_report.proofs.Judging.{one_cause}
use Rattle.tagset_report.proofs.Subsets.{has_document, none_breaks, is_subset}

-- what has a document is declared
pub declared : (set : Declarations) (e : Chars) → HasDocument set e → (a : Content) × (content_in set e ≡ Some a)
declared set e d =
    let node = d.0 in
    let t = met set node.name node.atts node.items d.2.1.0 in
    (t.content, subst (λ (x : Chars). content_in set x ≡ Some t.content) d.2.0 t.declared)

module _ (first second : Declarations) (root : Chars) where
  all_kept : (es : List Element) (broken : List BrokenDecl) → ListsBroken first second root es broken → broken ≡ [] → AllByRecursion (IsKept first second root) es
  all_kept [] broken h e = tt
  all_kept (x ∷ es) broken (inl h) e = (h.0, all_kept es broken h.1 e)
  all_kept (x ∷ es) broken (inr h) e = let z : record { element = x.0; cause = h.0 } ∷ h.1 ≡ [] = sym h.4 ∙ e in cc

  none_listed : NoneBreaks first second root → (es : List Element) (broken : List BrokenDecl) → ListsBroken first second root es broken → broken ≡ []
  none_listed n [] broken h = h
  none_listed n (x ∷ es) broken (inl h) = none_listed n es broken h.1
  none_listed n (x ∷ es) broken (inr h) = absurd (n x.0 h.2 h.0 h.3)

  same_cause : (x : Element) (k l : Cause) → Breaks first second x.0 k → Breaks first second x.0 l → k ≡ l
  same_cause x k l h g = one_cause first (content_in first x.0) (content_in second x.0) (attributes_in first x.0) (attributes_in second x.0) k l h g

  one_broken_of : (es : List Element) (broken others : List BrokenDecl) → ListsBroken first second root es broken → ListsBroken first second root es others → broken ≡ others
  one_broken_of [] broken others h g = h ∙ sym g
  one_broken_of (x ∷ es) broken others (inl h) (inl g) = one_broken_of es broken others h.1 g.1
  one_broken_of (x ∷ es) broken others (inl h) (inr g) = absurd (h.0 g.2 g.0 g.3)
  one_broken_of (x ∷ es) broken others (inr h) (inl g) = absurd (g.0 h.2 h.0 h.3)
  one_broken_of (x ∷ es) broken others (inr h) (inr g) =
      h.4 ∙ ap (λ (k : Cause). record { element = x.0; cause = k } ∷ h.1) (same_cause x h.0 g.0 h.3 g.3)
      ∙ ap (λ (rest : List BrokenDecl). record { element = x.0; cause = g.0 } ∷ rest) (one_broken_of es h.1 g.1 h.5 g.5) ∙ sym g.4

pub none_is_listed : NoneListed
none_is_listed first second root broken kf ks h = (
  (λ e.
      let kept = all_kept first second root first.elements broken h e in
      is_subset first second kf ks root (λ x u k b.
      (let d = declared first x (has_document first second kf ks x root u) in
      all_found (IsKept first second root) first.elements x d.0 kept d.1 u k b))),
  (λ s. none_listed first second root (none_breaks first second kf ks root s) first.elements broken h),
)

pub one_broken : OneBroken
one_broken first second root = one_broken_of first second root
