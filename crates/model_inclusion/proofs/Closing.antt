-- Listed pairs are those that common steps reach.
use Rattle.std.proofs.Common.{◌≡◌, List, [], ◌∷◌, ◌++◌, ℕ, refl, sym, ap, ◌∙◌, subst, true, ◌&&◌}
use Rattle.std.specs.List.{list_all}
use Rattle.std.proofs.lemmas.Bool.{and_parts}
use Rattle.std.proofs.lemmas.List.Folds.{list_all-append}
use Rattle.content_models.specs.declared.content.Content.{Content}
use Rattle.content_models.specs.Model.{Chars, among}
use Rattle.position_automata.specs.Automata.{FollowsOn, Way}
use Rattle.position_automata.proofs.States.{leads_by_ways}
use Rattle.model_inclusion.specs.Laws.{Reached, Starts, Steps, ListedByClosure}

way_more : (a : Content) (i j k : ℕ) (names : List Chars) (name : Chars) → Way a i names j → FollowsOn a j name k → Way a i (names ++ name ∷ []) k
way_more a i j k [] name w f = (k, subst (λ (z : ℕ). FollowsOn a z name k) (sym w) f, refl)
way_more a i j k (x ∷ names) name w f = (w.0, w.1, way_more a w.0 j k names name w.2 f)

module _ (live : List Chars) (a b : Content) where
  along : (names : List Chars) (i j k l : ℕ) → Reached live a b i j → list_all (among live) names ≡ true → Way a i names k → Way b j names l → Reached live a b k l
  along [] i j k l r t v w = subst (λ (z : ℕ). Reached live a b z l) v (subst (λ (z : ℕ). Reached live a b i z) w r)
  along (name ∷ names) i j k l r t v w =
      let p = and_parts (among live name) (list_all (among live) names) t in
      along names v.0 w.0 k l (Steps i j v.0 w.0 name r p.0 v.1 w.1) p.1 v.2 w.2

  abbrev HasWays : ℕ → ℕ → Type 0
  HasWays i j = (names : List Chars) × (list_all (among live) names ≡ true) × Way a 0 names i × Way b 0 names j

  ways : (i j : ℕ) → Reached live a b i j → HasWays i j
  ways _ _ Starts = ([], refl, refl, refl)
  ways _ _ (Steps i j k l name r t f g) =
      let h = ways i j r in
      let all : list_all (among live) (h.0 ++ name ∷ []) ≡ true =
      list_all-append (among live) h.0 (name ∷ []) ∙ ap (λ x. x && list_all (among live) (name ∷ [])) h.1 ∙ ap (λ x. x && true) t in
      (h.0 ++ name ∷ [], all, way_more a 0 i k h.0 name h.2 f, way_more b 0 j l h.0 name h.3 g)

pub listed_by_closure : ListedByClosure
listed_by_closure live a b i j = (
  (λ h. along live a b h.0 0 0 i j Starts h.1 ((leads_by_ways a h.0 i).0 h.2) ((leads_by_ways b h.0 j).0 h.3)),
  (λ r. (let h = ways live a b i j r in (h.0, h.1, (leads_by_ways a h.0 i).1 h.2, (leads_by_ways b h.0 j).1 h.3))),
)
