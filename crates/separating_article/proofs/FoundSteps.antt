-- The steps along P that were found are those that are taken.
use Rattle.std.proofs.Common.{◌≡◌, ◌∙◌, ℕ, Bool, true, false, cond, ◌⊎◌, [], sym, ap, subst, refl, inl, inr, Option, Some, Result, Ok, Err, IfSome}
use Rattle.std.specs.Prelude.{nat_eq}
use Rattle.std.specs.Map.{lookup}
use Rattle.std.specs.Result.{OnOk, OnErr}
use Rattle.std.proofs.lemmas.Bool.{and_parts, eqb-true}
use Rattle.indexmap.specs.IndexMap.{IndexMap, IsUnchanged, Updates}
use Rattle.separating_article.specs.declared.choosing.Path.TheVariants.{Own}
use Rattle.separating_article.specs.declared.choosing.Step.{Step}
use Rattle.separating_article.specs.declared.guide.Guide.{Guide}
use Rattle.separating_article.specs.Choosing.{next_step}
use Rattle.separating_article.specs.ChosenSteps.{Found, is_same_place, AreChosen, Keeps}

-- a step is kept, or there is no memory for it
pub kept : {S E : Type 0} (m n : IndexMap (ℕ × ℕ) (Option Step) S) (p : ℕ × ℕ) (step : Option Step) (r : Result (Option (Option Step)) E)
    → OnOk r (Updates is_same_place m n p (Some step)) → OnErr r (IsUnchanged m n) → Keeps p step m.entries n.entries
kept m n p step (Ok o) more same = inl more.0
kept m n p step (Err e) more same = inr same

module _ (guide : Guide) where
  -- none was found
  pub none_chosen : (found : Found) → found ≡ [] → AreChosen guide found
  none_chosen found q = subst (AreChosen guide) (sym q) (λ p. tt)

  -- one that was found
  pub chosen_at : (found : Found) (e i : ℕ) (step : Option Step) → AreChosen guide found → Some step ≡ lookup (is_same_place (e, i)) found
      → step ≡ next_step guide e (Own i)
  chosen_at found e i step all q = subst (λ (o : Option (Option Step)). IfSome o (λ s. s ≡ next_step guide e (Own i))) (sym q) (all (e, i))

  -- one more
  pub more_chosen : (old new : Found) (e i : ℕ) (step : Option Step) → AreChosen guide old → step ≡ next_step guide e (Own i)
      → Keeps (e, i) step old new → AreChosen guide new
  more_chosen old new e i step all is (inl h) = λ p.
      subst (λ (o : Option (Option Step)). IfSome o (λ s. s ≡ next_step guide p.0 (Own p.1))) (sym (h p)) (at p (is_same_place (e, i) p) refl)
    where
      at : (p : ℕ × ℕ) (b : Bool) → is_same_place (e, i) p ≡ b → IfSome (cond b (Some step) (lookup (is_same_place p) old)) (λ s. s ≡ next_step guide p.0 (Own p.1))
      at p true q = let t = and_parts (nat_eq e p.0) (nat_eq i p.1) q in is ∙ ap (λ x. next_step guide x (Own i)) (eqb-true e p.0 t.0) ∙ ap (λ x. next_step guide p.0 (Own x)) (eqb-true i p.1 t.1)
      at p false q = all p
  more_chosen old new e i step all is (inr q) = subst (AreChosen guide) (sym q) all
