-- What an item holds has its form.
use Rattle.std.proofs.Common.{◌≡◌, ◌∙◌, ℕ, ◌+◌, ◌-◌, ◌≤◌, List, [], ◌∷◌, ◌++◌, length, take, drop, true, ap, sym, subst, arith, length-append, length-drop}
use Rattle.std.specs.Prelude.{codes, slice_range}
use Rattle.std.proofs.Math.Seq.{drop-append_seam, take-append_seam}
use Rattle.std.proofs.lemmas.List.{length-take-le, drop-drop, drop-take, take-take}
use Rattle.jats_chars.specs.Names.{is_name}
use Rattle.dtd_scanner.specs.Items.{IsItemAt, IsBody, Holds, leaves_word}
use Rattle.dtd_scanner.specs.Parts.{contents_of}
use Rattle.dtd_scanner.specs.declared.item.ItemKind.TheVariants.{Reference, SectionStart, ElementDecl, AttlistDecl, EntityDecl, NotationDecl}

-- what stands in a part between an opening and a last character
middle : (text : List ℕ) (at end : ℕ) (word body : List ℕ) (last : ℕ) → at ≤ end → end ≤ length text → slice_range text at end ≡ word ++ (body ++ last ∷ []) → slice_range text (at + length word) (end - 1) ≡ body
middle text at end word body last after within is =
    let w = length word in
    let m = length body in
    let whole : end - at ≡ w + (m + 1) = sym (length-take-le (end - at) (drop at text) (omega (arith, length-drop at text))) ∙ ap length is ∙ length-append word (body ++ last ∷ []) ∙ ap (λ n. w + n) (length-append body (last ∷ [])) in
    let size : end - 1 - (at + w) ≡ m = omega arith in
    let rest : take (m + 1) (drop (at + w) text) ≡ body ++ last ∷ [] =
    ap (take (m + 1)) (sym (drop-drop w at text)) ∙ sym (drop-take w (m + 1) (drop at text)) ∙ ap (drop w) (ap (λ n. take n (drop at text)) (sym whole) ∙ is) ∙ drop-append_seam word (body ++ last ∷ []) in
    ap (λ n. take n (drop (at + w) text)) size ∙ sym (take-take m (m + 1) (drop (at + w) text) (omega arith)) ∙ ap (take m) rest ∙ take-append_seam body (last ∷ [])

module _ (text : List ℕ) (at end : ℕ) where
  -- a reference holds a Name
  pub reference_name : IsItemAt text at Reference end → is_name (contents_of text at Reference end) ≡ true
  reference_name is = ap is_name (middle text at end (codes "%") is.is.0 59 is.after is.within is.is.2) ∙ is.is.1

  -- a section's start holds a keyword part without `[`
  pub section_keyword : IsItemAt text at SectionStart end → ¬ Holds (contents_of text at SectionStart end) (codes "[")
  section_keyword is = subst (λ (t : List ℕ). ¬ Holds t (codes "[")) (sym (middle text at end (codes "<![") is.is.0 91 is.after is.within is.is.2)) is.is.1

  -- a declaration holds a body that leaves its word
  abbrev pub HoldsBody : List ℕ → Type 0
  HoldsBody body = IsBody body × (leaves_word body ≡ true)

  pub element_body : IsItemAt text at ElementDecl end → HoldsBody (contents_of text at ElementDecl end)
  element_body is = subst HoldsBody (sym (middle text at end (codes "<!ELEMENT") is.is.0 62 is.after is.within is.is.3)) (is.is.2, is.is.1)

  pub attlist_body : IsItemAt text at AttlistDecl end → HoldsBody (contents_of text at AttlistDecl end)
  attlist_body is = subst HoldsBody (sym (middle text at end (codes "<!ATTLIST") is.is.0 62 is.after is.within is.is.3)) (is.is.2, is.is.1)

  pub entity_body : IsItemAt text at EntityDecl end → HoldsBody (contents_of text at EntityDecl end)
  entity_body is = subst HoldsBody (sym (middle text at end (codes "<!ENTITY") is.is.0 62 is.after is.within is.is.3)) (is.is.2, is.is.1)

  pub notation_body : IsItemAt text at NotationDecl end → HoldsBody (contents_of text at NotationDecl end)
  notation_body is = subst HoldsBody (sym (middle text at end (codes "<!NOTATION") is.is.0 62 is.after is.within is.is.3)) (is.is.2, is.is.1)
