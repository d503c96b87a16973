-- The steps of a set's contents are those that follow, on declared names from ANY.
use Rattle.std.proofs.Common.{◌≡◌, ◌==◌, ℕ, zero, suc, List, [], ◌∷◌, map, Bool, true, false, cond, Option, Some, None, inl, inr, refl, sym, ap, ◌∙◌, subst, bytes_eq, slice_get}
use Rattle.std.specs.Map.{lookup}
use Rattle.std.proofs.lemmas.Bool.{eqb-true, eq-eqb}
use Rattle.attribute_types.proofs.TextTests.{on_test, bytes_same}
use Rattle.content_models.specs.declared.content.Content.{Content}
use Rattle.content_models.specs.declared.content.Content.TheVariants.{Empty, Any, Mixed, Children}
use Rattle.content_models.specs.Model.{Chars}
use Rattle.position_automata.specs.Automata.{FollowsOn}
use Rattle.position_automata.specs.Stepping.{steps_of}
use Rattle.position_automata.proofs.Meaning.{to_member, contains_of}
use Rattle.position_automata.proofs.Stepping.{follows_of, told_of}
use Rattle.position_automata.proofs.Words.{Member, mapped, unmapped}
use Rattle.decl_set.specs.Declarations.{Declarations, Element, content_in}
use Rattle.decl_set.specs.Steps.{steps_in}
use Rattle.decl_set.proofs.Found.{stands}

is_zero : (i : ℕ) (xs : List (Chars × ℕ)) (s : Chars × ℕ) → Member s (cond (i == 0) xs []) → (i ≡ 0) × Member s xs
is_zero i xs s m =
    let P : Bool → Type 0 = λ b. (i == 0) ≡ b → Member s (cond b xs []) → (i ≡ 0) × Member s xs in
    on_test P (i == 0) (λ t q m. (eqb-true i 0 q, m)) (λ t q m. elim m [ ]) refl m

at_zero : (i : ℕ) (xs : List (Chars × ℕ)) (s : Chars × ℕ) → i ≡ 0 → Member s xs → Member s (cond (i == 0) xs [])
at_zero i xs s e m = subst (λ b. Member s (cond b xs [])) (sym (eq-eqb i 0 e)) m

pub got_member : {X : Type 0} (es : List X) (n : ℕ) (x : X) → slice_get es n ≡ Some x → Member x es
got_member [] n x h = cc
got_member (y ∷ es) zero x h = let same : y ≡ x = cc in inl (sym same)
got_member (y ∷ es) (suc n) x h = inr (got_member es n x h)

module _ (set : Declarations) where
  -- each step follows
  pub follows_in : (a : Content) (i k : ℕ) (name : Chars) → Member (name, k) (steps_in set a i) → FollowsOn a i name k
  follows_in Empty i k name m = elim m [ ]
  follows_in Any i k name m =
      let z = is_zero i (map (λ e. (e.0, 0)) set.elements) (name, k) m in
      let t = unmapped {B = Chars × ℕ} (λ (e : Element). (e.0, 0)) set.elements (name, k) z.1 in
      (z.0, ap (λ x. x.1) t.2)
  follows_in (Mixed listed) i k name m = follows_of (Mixed listed) i k name (contains_of (steps_of (Mixed listed) i) (name, k) m)
  follows_in (Children part) i k name m = follows_of (Children part) i k name (contains_of (steps_of (Children part) i) (name, k) m)

  -- each state that follows on a declared name is a step
  pub steps_from : (a : Content) (i k : ℕ) (name : Chars) (b : Content) → content_in set name ≡ Some b → FollowsOn a i name k → Member (name, k) (steps_in set a i)
  steps_from Empty i k name b d f = absurd f
  steps_from Any i k name b d f =
      let t = stands set.elements name b d in
      at_zero i (map (λ e. (e.0, 0)) set.elements) (name, k) f.0
      (subst (λ x. Member {A = Chars × ℕ} (name, x) (map (λ (e : Element). (e.0, 0)) set.elements)) (sym f.1)
      (mapped {B = Chars × ℕ} (λ (e : Element). (e.0, 0)) set.elements (name, b) (got_member set.elements t.0 (name, b) t.1)))
  steps_from (Mixed listed) i k name b d f = to_member (steps_of (Mixed listed) i) (name, k) (told_of (Mixed listed) i k name tt f)
  steps_from (Children part) i k name b d f = to_member (steps_of (Children part) i) (name, k) (told_of (Children part) i k name tt f)
