-- Acceptance and steps of a set's contents.
use Rattle.std.proofs.Common.{◌≡◌, ◌≤◌, ◌==◌, ℕ, List, [], length, map, Bool, cond, Option, Some, None, true, false, inl, inr, refl, ap, ◌∙◌, arith, ◌⊎◌, bytes_eq, slice_get}
use Rattle.std.proofs.lemmas.List.{length-map}
use Rattle.std.specs.Map.{lookup}
use Rattle.content_models.specs.declared.content.Content.{Content}
use Rattle.content_models.specs.declared.content.Content.TheVariants.{Empty, Any, Mixed, Children}
use Rattle.content_models.specs.Model.{Chars}
use Rattle.content_models.specs.Proper.{IsProper}
use Rattle.position_automata.specs.Automata.{FollowsOn, Accepts}
use Rattle.position_automata.specs.Stepping.{does_accept}
use Rattle.position_automata.proofs.Stepping.{accepts_by_test, few_steps}
use Rattle.position_automata.proofs.Words.{Member}
use Rattle.decl_set.specs.Declarations.{Declarations, Element, content_in}
use Rattle.decl_set.specs.Asked.{IsKept}
use Rattle.decl_set.specs.Steps.{steps_in, steps_at}
use Rattle.decl_set.proofs.Found.{stands, element_is}
use Rattle.tree_costs.proofs.Steps.{follows_in, got_member, steps_from as steps_on}

pub accept_to : (a : Content) (i : ℕ) → does_accept a i ≡ true → Accepts a i
accept_to a i h = (accepts_by_test a i).0 h

pub accept_from : (a : Content) (i : ℕ) → Accepts a i → does_accept a i ≡ true
accept_from a i h = (accepts_by_test a i).1 h

pub steps_to : (set : Declarations) (a : Content) (i : ℕ) (s : Chars × ℕ) → Member s (steps_in set a i) → FollowsOn a i s.0 s.1
steps_to set a i s m = follows_in set a i s.1 s.0 m

-- a state that follows is a step, or its name is not declared
pub steps_from : (set : Declarations) (a : Content) (i k : ℕ) (name : Chars) → FollowsOn a i name k → Member (name, k) (steps_in set a i) ⊎ (content_in set name ≡ None)
steps_from set a i k name f = by (content_in set name) refl
  where
    by : (o : Option Content) → content_in set name ≡ o → Member (name, k) (steps_in set a i) ⊎ (content_in set name ≡ None)
    by None q = inr q
    by (Some b) q = inl (steps_on set a i k name b q f)

pub declared_member : (es : List Element) (e : Chars) (a : Content) → lookup (bytes_eq e) es ≡ Some a → Member (e, a) es
declared_member es e a h = let t = stands es e a h in got_member es t.0 (e, a) t.1

-- the steps that a set tells of the element at a place
pub told : (set : Declarations) (n i k : ℕ) (e : Chars) (a : Content) (o : Option (Chars × ℕ)) → slice_get set.elements n ≡ Some (e, a)
    → o ≡ slice_get (steps_at set (slice_get set.elements n) i) k → o ≡ slice_get (steps_in set a i) k
told set n i k e a o h q = q ∙ ap (λ x. slice_get (steps_at set x i) k) h

at_most_list : (b : Bool) (xs : List (Chars × ℕ)) (n : ℕ) → length xs ≤ n → length (cond b xs []) ≤ n
at_most_list true xs n l = l
at_most_list false xs n l = omega arith

few_in : (set : Declarations) (a : Content) (i : ℕ) → length set.elements ≤ 1024 → IsProper a → length (steps_in set a i) ≤ 1024
few_in set Empty i few p = few_steps Empty i p
few_in set Any i few p =
    at_most_list (i == 0) (map (λ e. (e.0, 0)) set.elements) 1024 (let q = length-map {B = Chars × ℕ} set.elements (λ (e : Element). (e.0, 0)) in omega (arith, q, few))
few_in set (Mixed listed) i few p = few_steps (Mixed listed) i p
few_in set (Children part) i few p = few_steps (Children part) i p

pub few : (set : Declarations) (e : Chars) (a : Content) (i : ℕ) → IsKept set → content_in set e ≡ Some a → length (steps_in set a i) ≤ 1024
few set e a i k h = few_in set a i k.few (element_is set e a k h).proper
