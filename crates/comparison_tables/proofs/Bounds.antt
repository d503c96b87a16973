-- How many states and steps contents have, and elements by their places.
use Rattle.std.proofs.Common.{◌≡◌, ◌≤◌, ◌<◌, ℕ, Option, Some, None, IfSome, slice_get, refl, sym, ap, ◌∙◌, subst, arith}
use Rattle.std.specs.Option.{option_map}
use Rattle.content_models.specs.declared.content.Content.{Content}
use Rattle.content_models.specs.declared.content.Content.TheVariants.{Empty, Any, Mixed, Children}
use Rattle.content_models.specs.Model.{Chars}
use Rattle.content_models.specs.Proper.{IsProper}
use Rattle.position_automata.specs.Automata.{states}
use Rattle.position_automata.proofs.Stepping.{are_within}
use Rattle.position_automata.proofs.Tabled.{proper_count}
use Rattle.decl_set.specs.Asked.{IsKept, IsElement}
use Rattle.decl_set.specs.Children.{child_step}
use Rattle.decl_set.specs.Declarations.{Declarations, Element, content_in, name_of}
use Rattle.decl_set.specs.Steps.{steps_in}
use Rattle.decl_set.proofs.Found.{found_at, all_at}
use Rattle.tree_costs.proofs.Steps.{follows_in, got_member}

pub few_states : (a : Content) → IsProper a → states a ≤ 1025
few_states Empty p = omega arith
few_states Any p = omega arith
few_states (Mixed listed) p = omega arith
few_states (Children part) p = omega (arith, proper_count (Children part) part refl p)

module _ (set : Declarations) (kept : IsKept set) where
  pub proper_at : (x : ℕ) (e : Element) → slice_get set.elements x ≡ Some e → IsProper e.1
  proper_at x e h = (all_at IsElement set.elements x e kept.elements_are h).proper

  -- the element at a place has few states
  pub few_at : (x : ℕ) (name : Chars) (a : Content) → slice_get set.elements x ≡ Some (name, a) → states a ≤ 1025
  few_at x name a h = few_states a (proper_at x (name, a) h)

  -- the name and the content of a place are those of its element
  pub element_is : (x : ℕ) (name : Chars) (a : Content) → Some name ≡ option_map name_of (slice_get set.elements x) → Some a ≡ content_in set name
      → Some (name, a) ≡ slice_get set.elements x
  element_is x name a n c = by (slice_get set.elements x) refl n
    where
      by : (o : Option Element) → slice_get set.elements x ≡ o → Some name ≡ option_map name_of o → Some (name, a) ≡ o
      by None q n = absurd (let z : Some name ≡ None = n in cc)
      by (Some e) q n =
          let z : Some name ≡ Some e.0 = n in
          let same : name ≡ e.0 = cc in
          let found : content_in set e.0 ≡ Some e.1 = found_at set.elements x e kept.elements_apart q in
          let y : Some a ≡ Some e.1 = c ∙ ap (content_in set) same ∙ found in
          let is : a ≡ e.1 = cc in
          ap (λ (v : Chars). Some (v, a)) same ∙ ap (λ (b : Content). Some (e.0, b)) is

  -- an element at a place has a content
  pub element_has : (x : ℕ) (name : Chars) → Some name ≡ option_map name_of (slice_get set.elements x) → None ≡ content_in set name → ⊥
  element_has x name n c = by (slice_get set.elements x) refl n
    where
      by : (o : Option Element) → slice_get set.elements x ≡ o → Some name ≡ option_map name_of o → ⊥
      by None q n = let z : Some name ≡ None = n in cc
      by (Some e) q n =
          let z : Some name ≡ Some e.0 = n in
          let same : name ≡ e.0 = cc in
          let found : content_in set e.0 ≡ Some e.1 = found_at set.elements x e kept.elements_apart q in
          let y : None ≡ Some e.1 = c ∙ ap (content_in set) same ∙ found in
          cc

-- a step leads to a state
pub child_below : (first : Declarations) (a : Content) (i k : ℕ) (o : Option (Option ℕ × ℕ)) → o ≡ option_map (child_step first) (slice_get (steps_in first a i) k)
    → IfSome o (λ s. s.1 < states a)
child_below first a i k o h = subst (λ (z : Option (Option ℕ × ℕ)). IfSome z (λ s. s.1 < states a)) (sym h) (by (slice_get (steps_in first a i) k) refl)
  where
    by : (q : Option (Chars × ℕ)) → slice_get (steps_in first a i) k ≡ q → IfSome (option_map (child_step first) q) (λ s. s.1 < states a)
    by None q = tt
    by (Some s) q = (are_within a).after i s.1 s.0 (follows_in first a i s.1 s.0 (got_member (steps_in first a i) k s q))
